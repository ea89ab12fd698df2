-- A line without bytes has no words; any other has its words in strings.
use Rattle.std.proofs.Common.{◌≡◌, ◌<◌, length, sym, ◌∙◌, arith}
use Rattle.std.proofs.lemmas.Bool.{eqb-true, eqb-false}
use Rattle.reports.proofs.Strings.{empty-written, line-written}
use Rattle.reports.proofs.json.append_line.Goals as goal

pub returns-then-is_empty : goal.returns-then-is_empty
returns-then-is_empty c fields is =
    let none : length c.args.line.now ≡ 0 = eqb-true _ _ (sym c.is_empty.ensures ∙ c.if-is_empty.true) in
    empty-written fields c.args.line.now c.args.json.now.items c.extend_from_slice.new.self.items is none
    c.in_ok-extend_from_slice.ensures.items

pub returns : goal.returns
returns c fields is =
    let other = eqb-false _ _ (sym c.is_empty.ensures ∙ c.if-is_empty.false) in
    let some : 0 < length c.args.line.now = omega arith in
    line-written fields c.args.line.now c.args.json.now.items c.extend_from_slice-2.new.self.items c.append_words.new.json.items
    c.extend_from_slice-3.new.self.items is some c.in_ok-extend_from_slice-2.ensures.items c.in_ok-append_words.ensures
    c.in_ok-extend_from_slice-3.ensures.items

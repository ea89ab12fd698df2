-- A line has a first word, and what its words give is said of it.
use Rattle.std.proofs.Common.{◌≡◌, ◌∙◌, ◌<◌, ◌^◌, ℕ, suc, List, length, sym, ap, arith, rules, Bor}
use Rattle.std.proofs.Math.ListN.{length-map}
use Rattle.script.proofs.Arity.{shown}
use Rattle.script.proofs.ReadLines.{answered}
use Rattle.script.proofs.WordSplitting.{split-first}
use Rattle.script.proofs.event_reading.read_event.Goals as goal

pub returns-in_default-split_first : goal.returns-in_default-split_first
returns-in_default-split_first c =
    let words = c.in-Ok.words.items in
    let parts = split-first c.args.line.now in
    let some : length (shown words) ≡ suc (length parts.0) = ap (λ (it : List (List ℕ)). length it) (c.in-Ok.ensures ∙ parts.1) in
    let none : length words ≡ 0 =
    ap (λ (it : List (Bor (List ℕ))). length it) (sym c.as_slice.ensures.value) ∙ c.in_default-split_first.ensures.cases in
    absurd (omega (arith, some, none, length-map words (λ (word : Bor (List ℕ)). word.now)))

pub returns : goal.returns
returns c =
    let setup = c.args.setup.now in
    let workers : setup.workers < 2 ^ 64 = first_of (omega arith, search rules) in
    let replicas : setup.replicas < 2 ^ 64 = first_of (omega arith, search rules) in
    answered setup c.args.line.now c.in-Some.first.now.now (shown c.in-Some.rest.now) c.read_table_event.result workers replicas
    (sym c.in-Ok.ensures ∙ ap shown (sym c.as_slice.ensures.value ∙ c.in-Some.ensures.cases.0)) c.read_table_event.ensures

-- The number of a word is the one that is written so.
use Rattle.std.proofs.Common.{◌≡◌, ◌∙◌, ◌<◌, ◌^◌, sym, ap, true, false, decimal, rules}
use Rattle.std.specs.Str.{bytes_eq}
use Rattle.std.proofs.lemmas.Slice.Eq.{bytes_eq-Decides}
use Rattle.script.proofs.Numbers.{number-written, number-none}
use Rattle.script.proofs.word_reading.number.Goals as goal

pub returns-in_err-number : goal.returns-in_err-number
returns-in_err-number c =
    let none = number-none c.args.word.now (λ n small e. let r = c.in_err-number.ensures n small e in cc) in
    cc

pub returns-then-is_written : goal.returns-then-is_written
returns-then-is_written c =
    let small : c.in_ok-number.number < 2 ^ 64 = search rules in
    number-written c.in_ok-number.number c.args.word.now small (sym c.is_written.ensures ∙ c.if-is_written.true)

pub returns-else-is_written : goal.returns-else-is_written
returns-else-is_written c =
    let number = c.in_ok-number.number in
    let word = c.args.word.now in
    number-none word (λ n small e.
    let r = c.in_ok-number.ensures n small e in
    let same : number ≡ n = cc in
    let yes : bytes_eq (decimal number) word ≡ true = (bytes_eq-Decides (decimal number) word).1 (ap decimal same ∙ e) in
    let no : bytes_eq (decimal number) word ≡ false = sym c.is_written.ensures ∙ c.if-is_written.false in
    cc)

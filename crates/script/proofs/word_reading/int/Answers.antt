-- The signed number of a word is the one that is written so.
use Rattle.std.proofs.Common.{◌≡◌, ◌∙◌, FitsSigned, sym, ap, true, false, rules}
use Rattle.std.specs.Int.{w64}
use Rattle.std.specs.Fmt.{signed_decimal}
use Rattle.std.specs.Str.{bytes_eq}
use Rattle.std.proofs.lemmas.Int.{to_z-of_z}
use Rattle.std.proofs.lemmas.Slice.Eq.{bytes_eq-Decides}
use Rattle.script.proofs.Numbers.{int-written, int-none}
use Rattle.script.proofs.word_reading.int.Goals as goal

pub returns-in_err-value : goal.returns-in_err-value
returns-in_err-value c =
    let none = int-none c.args.word.now (λ z fits e. let r = c.in_err-value.ensures z fits e in cc) in
    cc

pub returns-then-is_written_int : goal.returns-then-is_written_int
returns-then-is_written_int c =
    let number = c.in_ok-value.value in
    let fits : FitsSigned w64 number = search rules in
    let tested = rw (to_z-of_z w64 number fits) at c.is_written_int.ensures in
    rw (to_z-of_z w64 number fits)
    (int-written number c.args.word.now fits (sym tested ∙ c.if-is_written_int.true))

pub returns-else-is_written_int : goal.returns-else-is_written_int
returns-else-is_written_int c =
    let number = c.in_ok-value.value in
    let word = c.args.word.now in
    let fits_it : FitsSigned w64 number = search rules in
    let tested = rw (to_z-of_z w64 number fits_it) at c.is_written_int.ensures in
    int-none word (λ z fits e.
    let r = c.in_ok-value.ensures z fits e in
    let same : number ≡ z = cc in
    let yes : bytes_eq (signed_decimal number) word ≡ true = (bytes_eq-Decides (signed_decimal number) word).1
    (ap signed_decimal same ∙ e) in
    let no : bytes_eq (signed_decimal number) word ≡ false = sym tested ∙ c.if-is_written_int.false in
    cc)

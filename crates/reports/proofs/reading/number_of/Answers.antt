-- What a number is written as is text, and is parsed as it.
use Rattle.std.proofs.Common.{List, ℕ, ◌∙◌, ◌≡◌, sym, subst, decimal}
use Rattle.std.specs.Str.{IsUtf8}
use Rattle.std.proofs.lemmas.Fmt.{parse-decimal, IsAscii-decimal}
use Rattle.std.proofs.lemmas.Str.{IsUtf8-from_ascii}
use Rattle.reports.proofs.reading.number_of.Goals as goal

pub returns-in_err-text_of : goal.returns-in_err-text_of
returns-in_err-text_of c number small e =
    let P : List ℕ → Type 0 = λ bytes. IsUtf8 bytes in
    absurd (c.in_err-text_of.ensures (subst P e (IsUtf8-from_ascii (decimal number) (IsAscii-decimal number small))))

pub returns : goal.returns
returns c number small e =
    let text = c.in_ok-text_of.field-0.now in
    let same : text ≡ decimal number = c.in_ok-text_of.ensures.0 ∙ sym e in
    let read = parse-decimal 64 number text c.parse.result small small same c.parse.ensures.value.0 in
    rw read at c.ok.ensures.value

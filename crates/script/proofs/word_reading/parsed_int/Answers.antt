-- What a signed number is written as is text, and is parsed as it.
use Rattle.std.proofs.Common.{List, ℕ, ◌∙◌, ◌≡◌, sym, subst}
use Rattle.std.specs.Fmt.{signed_decimal}
use Rattle.std.specs.Int.{w64}
use Rattle.std.specs.Str.{IsUtf8}
use Rattle.std.proofs.lemmas.Fmt.{parse-signed_decimal, IsAscii-signed}
use Rattle.std.proofs.lemmas.Str.{IsUtf8-from_ascii}
use Rattle.script.proofs.word_reading.parsed_int.Goals as goal

pub returns-in_err-text : goal.returns-in_err-text
returns-in_err-text c number fits e =
    let P : List ℕ → Type 0 = λ bytes. IsUtf8 bytes in
    absurd (c.in_err-text.ensures (subst P e (IsUtf8-from_ascii (signed_decimal number) (IsAscii-signed number fits.sfits))))

pub returns : goal.returns
returns c number fits e =
    let text = c.in_ok-text.field-0.now in
    let same : text ≡ signed_decimal number = c.in_ok-text.ensures.0 ∙ sym e in
    let read = parse-signed_decimal w64 number text c.parse.result fits fits.sfits same c.parse.ensures.value.0 in
    rw read at c.ok.ensures.value

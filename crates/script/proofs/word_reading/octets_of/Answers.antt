-- The bytes are those of the digits: two digits make a byte, as long as there are any.
use Rattle.std.proofs.Common.{◌≡◌, ◌∙◌, ℕ, ◌*◌, ◌/◌, length, take, drop, subst, sym, None, refl, arith}
use Rattle.std.proofs.Math.ListN.{length-set}
use Rattle.script.specs.Inner.WordReading.{bytes_of_digits, octets_of}
use Rattle.script.proofs.Hex.{onto, onto-none, hex-step, hex-stop, octets-none, octets-broken, octets-made}
use Rattle.script.proofs.word_reading.octets_of.Goals as goal
use Rattle.script.proofs.word_reading.octets_of.Goals.{then-digits-ne0-via-then-digits-ne0}
use Rattle.script.proofs.word_reading.octets_of.Goals.{then-digits-ne0-via-else-digits-ne0+then-len-eq0}
use Rattle.script.proofs.word_reading.octets_of.Goals.{then-digits-ne0-via-else-digits-ne0+else-len-eq0+then-len-gt-OCTETS_MAX}

pub returns-then-digits-ne0 : goal.returns-then-digits-ne0
returns-then-digits-ne0 c =
    sym (octets-none c.args.digits.now (λ count some few e. elim c.then-digits-ne0.branch [
      | then-digits-ne0-via-then-digits-ne0 w ↦ omega arith
      | then-digits-ne0-via-else-digits-ne0+then-len-eq0 w ↦ omega arith
      | then-digits-ne0-via-else-digits-ne0+else-len-eq0+then-len-gt-OCTETS_MAX w ↦ omega arith
    ]))

pub loop-index-init : goal.loop-index-init
loop-index-init c = record { room = refl; made = sym (onto-none (bytes_of_digits c.args.digits.now)) }

pub returns-in_err-bytes : goal.returns-in_err-bytes
returns-in_err-bytes c =
    let digits = c.args.digits.now in
    let index = c.loop-index.index in
    let stop = hex-stop digits (take index c.loop-index.bytes) index (omega arith) (sym c.in_err-bytes.ensures) in
    let none : octets_of digits ≡ None = octets-broken digits (c.loop-index.invariant.made ∙ stop) in
    cc

pub loop-index-preserved : goal.loop-index-preserved
loop-index-preserved c =
    let index = c.loop-index.index in
    record {
      room = omega (arith, length-set {A = ℕ});
      made = c.loop-index.invariant.made ∙ hex-step c.args.digits.now c.loop-index.bytes index c.in_ok-bytes.field-0
          (omega arith) (omega arith) (sym c.in_ok-bytes.ensures);
    }

pub returns : goal.returns
returns c =
    let digits = c.args.digits.now in
    let bytes = c.loop-index.bytes in
    let index = c.loop-index.index in
    let len = length digits / 2 in
    let same : index ≡ len = omega arith in
    let P : ℕ → Type 0 = λ k. bytes_of_digits digits ≡ onto (take k bytes) (bytes_of_digits (drop (2 * k) digits)) in
    c.from_slice.ensures
    ∙ octets-made digits bytes len (omega arith) (omega arith) (omega arith) c.loop-index.invariant.room
    (subst P same c.loop-index.invariant.made)

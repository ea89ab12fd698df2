-- The bytes are those of the digits: two digits make a byte, as long as there are any.
use Rattle.std.proofs.Common.{rules, arith, ◌≡◌, ℕ, ◌*◌, ◌+◌, ◌/◌, length, drop, true, false, ◌==◌, codes, List, [], ◌∷◌, ◌++◌}
use Rattle.std.proofs.Common.{Some, refl, sym, ap, ◌∙◌, subst}
use Rattle.std.proofs.lemmas.Bool.{eqb-true}
use Rattle.std.specs.Str.{bytes_eq}
use Rattle.script.specs.Inner.WordReading.{bytes_of_digits}
use Rattle.script.proofs.Hex.{onto, onto-none, hex-dash, hex-more, hex-stop, hex-pairs, hex-odd, hex-made}
use Rattle.script.proofs.value_reading.read_bytes.Goals as goal
use Rattle.script.proofs.value_reading.read_bytes.Goals.{then-is_empty-via-then-is_empty}
use Rattle.script.proofs.value_reading.read_bytes.Goals.{then-is_empty-via-else-is_empty+then-word-ne0}

pub returns-then-eq-clause-ok : goal.returns-then-eq-clause-ok
returns-then-eq-clause-ok c =
    let word = c.args.word.now in
    let dash : bytes_eq word (codes "-") ≡ true = ap (bytes_eq word) (sym c.as_slice.ensures) ∙ sym c.eq.ensures ∙ c.if-eq.true in
    hex-dash word dash ∙ ap (λ (bytes : List ℕ). Some bytes) (sym c.new-bytes.ensures.items)

pub returns-then-is_empty-clause-err : goal.returns-then-is_empty-clause-err
returns-then-is_empty-clause-err c =
    let word = c.args.word.now in
    let other : bytes_eq word (codes "-") ≡ false = ap (bytes_eq word) (sym c.as_slice.ensures) ∙ sym c.eq.ensures ∙ c.if-eq.false in (
      refl,
      hex-odd word other (λ count some even. elim c.then-is_empty.branch [
        | then-is_empty-via-then-is_empty w ↦
            let none : length word ≡ 0 = eqb-true (length word) 0 (sym c.is_empty.ensures ∙ w.if-is_empty.true) in
            omega arith
        | then-is_empty-via-else-is_empty+then-word-ne0 w ↦ omega arith
      ]),
    )

pub loop-index-init : goal.loop-index-init
loop-index-init c =
    let word = c.args.word.now in
    sym (onto-none (bytes_of_digits word)) ∙ ap (λ (front : List ℕ). onto front (bytes_of_digits word)) (sym c.new-bytes.ensures.items)

pub returns-in-None-clause-err : goal.returns-in-None-clause-err
returns-in-None-clause-err c =
    let word = c.args.word.now in
    let other : bytes_eq word (codes "-") ≡ false = ap (bytes_eq word) (sym c.as_slice.ensures) ∙ sym c.eq.ensures ∙ c.if-eq.false in
    let some : (length word == 0) ≡ false = sym c.is_empty.ensures ∙ c.if-is_empty.false in
    let stop = hex-stop word c.loop-index.bytes.items c.loop-index.index (omega arith) (sym c.in-None.ensures) in
    (refl, hex-pairs word some other ∙ (c.loop-index.invariant ∙ stop))

pub loop-index-preserved : goal.loop-index-preserved
loop-index-preserved c =
    let word = c.args.word.now in
    let front = c.loop-index.bytes.items in
    let index = c.loop-index.index in
    let byte = c.in-Some.byte in
    let longer : c.push.new.self.items ≡ front ++ byte ∷ [] = search rules in
    c.loop-index.invariant
    ∙ (hex-more word front index byte (omega arith) (sym c.in-Some.ensures)
    ∙ ap (λ (bytes : List ℕ). onto bytes (bytes_of_digits (drop (2 * (index + 1)) word))) (sym longer))

pub returns-clause-ok : goal.returns-clause-ok
returns-clause-ok c =
    let word = c.args.word.now in
    let front = c.loop-index.bytes.items in
    let index = c.loop-index.index in
    let len = length word / 2 in
    let other : bytes_eq word (codes "-") ≡ false = ap (bytes_eq word) (sym c.as_slice.ensures) ∙ sym c.eq.ensures ∙ c.if-eq.false in
    let some : (length word == 0) ≡ false = sym c.is_empty.ensures ∙ c.if-is_empty.false in
    let same : index ≡ len = omega arith in
    let P : ℕ → Type 0 = λ k. bytes_of_digits word ≡ onto front (bytes_of_digits (drop (2 * k) word)) in
    hex-pairs word some other ∙ hex-made word front len (omega arith) (subst P same c.loop-index.invariant)

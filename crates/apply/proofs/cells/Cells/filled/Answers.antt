-- As many values as rows.
use Rattle.std.proofs.Common.{◌≡◌, ℕ, zero, suc, ℤ, ◌∷◌, length, map, replicate, refl, ap, ◌∙◌, rules}
use Rattle.std.proofs.lemmas.List.{length-replicate}
use Rattle.std.specs.List.{each_same, repeat}
use Rattle.rows.specs.declared.value.Value.TheVariants as values
use Rattle.store.specs.Lent.{octets_in}
use Rattle.apply.proofs.Wide.{octets-repeat}
use Rattle.apply.proofs.cells.Cells.filled.Goals as goal

numbers : (rows : ℕ) (number : ℤ) → map values.Int (replicate rows number) ≡ replicate rows (values.Int number)
numbers zero number = refl
numbers (suc rows) number = ap (λ rest. values.Int number ∷ rest) (numbers rows number)

pub returns-in_ok-vec-in-Int : goal.returns-in_ok-vec-in-Int
returns-in_ok-vec-in-Int c =
    let items : c.in_ok-vec-in-Int.field-0.items ≡ replicate c.args.rows c.in-Int.number = search rules in
    rw c.in-Int.is (record {
      kind = refl;
      cells = ap length items ∙ length-replicate c.args.rows c.in-Int.number;
      values = ap (map values.Int) items ∙ numbers c.args.rows c.in-Int.number;
    })

pub returns-in_ok-repeat-in-Octets : goal.returns-in_ok-repeat-in-Octets
returns-in_ok-repeat-in-Octets c =
    let rows = c.args.rows in
    let value = c.as_slice-value.result.now in
    let items : c.in_ok-repeat-in-Octets.field-0.items ≡ repeat rows value =
    each_same (repeat rows value) c.in_ok-repeat-in-Octets.field-0.items c.in_ok-repeat-in-Octets.ensures.items in
    rw c.in-Octets.is (record {
      kind = search rules;
      cells = search rules;
      values = ap (octets_in rows (length value)) items ∙ octets-repeat (length value) rows value refl ∙ search rules;
    })

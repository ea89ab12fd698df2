-- The rows so far have their numbers.
use Rattle.std.proofs.Common.{[], ◌∷◌, map}
use Rattle.rows.specs.declared.value.Value.TheVariants.{Int}
use Rattle.plans.specs.Inner.Blocks.{IsNumbering, Extends}
use Rattle.plans.specs.Inner.Cells.{value_at, AreKeyed}
use Rattle.plans.proofs.row_numbers.number_singles.Given as goal

abbrev pub invariant-loop-value : goal.invariant-loop-value
invariant-loop-value l = record {
  numbering : IsNumbering l.numbering;
  extends : Extends l.initial.numbering.keys.items l.numbering.keys.items;
  keyed : AreKeyed l.numbering.keys.items (λ i. value_at (map Int l.values) i ∷ []) l.value-index l.numbers.items;
}

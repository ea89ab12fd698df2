-- The rows so far have their numbers.
use Rattle.plans.specs.Inner.Blocks.{IsNumbering, Extends}
use Rattle.plans.specs.Inner.Cells.{key_at, AreKeyed}
use Rattle.plans.proofs.row_numbers.number_lists.Given as goal

abbrev pub invariant-loop-row : goal.invariant-loop-row
invariant-loop-row l = record {
  numbering : IsNumbering l.numbering;
  extends : Extends l.initial.numbering.keys.items l.numbering.keys.items;
  keyed : AreKeyed l.numbering.keys.items (key_at l.columns l.places) l.row l.numbers.items;
}

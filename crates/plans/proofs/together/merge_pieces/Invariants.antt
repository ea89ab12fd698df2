-- The plans on the table have the groups of the pieces so far, and the others are left.
use Rattle.std.proofs.Common.{◌≡◌, ℕ, ◌<◌, ◌++◌, get_or, length}
use Rattle.rows.specs.Tables.{rows_of}
use Rattle.queries.specs.declared.plan.Plan.{Plan}
use Rattle.plans.specs.Inner.Kept.{GroupList}
use Rattle.plans.specs.Inner.Pieces.{rows_of_pieces}
use Rattle.plans.proofs.MergedPieces.{Merges}
use Rattle.plans.proofs.together.merge_pieces.Given as goal

abbrev pub invariant-loop-part : goal.invariant-loop-part
invariant-loop-part g l = record {
  whole : l.yielded ++ l.part-iterator.rest.items ≡ l.fn.parts.items;
  sizes : length l.groups ≡ length l.plans;
  rows : l.rows ≡ length (rows_of_pieces (rows_of (g.S.Store.tables l.store) l.table) l.pieces (length l.yielded));
  merges : (k : ℕ) (d : Plan) (e : GroupList) → k < length l.plans
      → Merges (g.S.Store.tables l.store) (get_or l.plans k d) l.table l.pieces (length l.yielded) l.rows (get_or l.initial.groups k e)
      (get_or l.groups k e);
}

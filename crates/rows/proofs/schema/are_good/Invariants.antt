-- What is left decides for all.
use Rattle.std.proofs.Common.{◌≡◌, drop}
use Rattle.std.specs.List.{list_all}
use Rattle.rows.specs.Shape.{is_good}
use Rattle.rows.proofs.schema.are_good.Given as goal

abbrev pub invariant-loop-kind : goal.invariant-loop-kind
invariant-loop-kind l = list_all is_good (drop l.kind-index l.kinds) ≡ list_all is_good l.kinds

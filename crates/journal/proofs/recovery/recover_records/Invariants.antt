-- How far recovery has come.
use Rattle.std.proofs.Common.{length}
use Rattle.rows.specs.Shape.{shape_of}
use Rattle.journal.specs.Inner.Progress.{HasCome}
use Rattle.journal.proofs.recovery.recover_records.Given as goal

abbrev pub invariant-loop-alloc : goal.invariant-loop-alloc
invariant-loop-alloc l = HasCome l.form l.workers (shape_of l.schema) l.bytes l.commits.items l.present l.rest

abbrev pub decreases-loop-alloc : goal.decreases-loop-alloc
decreases-loop-alloc l = length l.rest

-- The laws, for all arrivals.
use Rattle.intake.proofs.Feeding.{nothing-from, commits-from, frames-from, drops-from, gains-from, kept-of_stream}
use Rattle.intake.proofs.laws.arrivals_stay_of_streams.Goals as goal

pub returns-clause-nothing : goal.returns-clause-nothing
returns-clause-nothing c = nothing-from

pub returns-clause-commits : goal.returns-clause-commits
returns-clause-commits c = commits-from

pub returns-clause-frames : goal.returns-clause-frames
returns-clause-frames c = frames-from

pub returns-clause-drops : goal.returns-clause-drops
returns-clause-drops c = drops-from

pub returns-clause-gains : goal.returns-clause-gains
returns-clause-gains c = gains-from

pub returns-clause-kept : goal.returns-clause-kept
returns-clause-kept c = kept-of_stream

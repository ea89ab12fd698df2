-- The laws, for all arrivals.
use Rattle.intake.proofs.Feeding.{nothing-of, frames-of, kept-of}
use Rattle.intake.proofs.Staying.{releases-others, releases-workers}
use Rattle.intake.proofs.laws.arrivals_stay_of_a_list.Goals as goal

pub returns-clause-nothing : goal.returns-clause-nothing
returns-clause-nothing c = nothing-of

pub returns-clause-frames : goal.returns-clause-frames
returns-clause-frames c = frames-of

pub returns-clause-kept : goal.returns-clause-kept
returns-clause-kept c = kept-of

pub returns-clause-released : goal.returns-clause-released
returns-clause-released c = releases-others

pub returns-clause-workers : goal.returns-clause-workers
returns-clause-workers c = releases-workers

-- The laws, for all arrivals.
use Rattle.intake.proofs.Staying.{gains-workers, gains-known, gains-kept}
use Rattle.intake.proofs.laws.frames_are_gained.Goals as goal

pub returns-clause-workers : goal.returns-clause-workers
returns-clause-workers c = gains-workers

pub returns-clause-known : goal.returns-clause-known
returns-clause-known c = gains-known

pub returns-clause-kept : goal.returns-clause-kept
returns-clause-kept c = gains-kept

-- The laws, for all arrivals.
use Rattle.intake.proofs.Staying.{frames-workers, drops-workers, frames-known, drops-known, frames-kept, drops-kept}
use Rattle.intake.proofs.Missing.{none-complete, lacking-worker}
use Rattle.intake.proofs.laws.known_frames_stay_kept.Goals as goal

pub returns-clause-frames_leave : goal.returns-clause-frames_leave
returns-clause-frames_leave c = frames-workers

pub returns-clause-drops_leave : goal.returns-clause-drops_leave
returns-clause-drops_leave c = drops-workers

pub returns-clause-known : goal.returns-clause-known
returns-clause-known c = frames-known

pub returns-clause-drops_known : goal.returns-clause-drops_known
returns-clause-drops_known c = drops-known

pub returns-clause-kept : goal.returns-clause-kept
returns-clause-kept c = frames-kept

pub returns-clause-drops_kept : goal.returns-clause-drops_kept
returns-clause-drops_kept c = drops-kept

pub returns-clause-complete : goal.returns-clause-complete
returns-clause-complete c = none-complete

pub returns-clause-lacking : goal.returns-clause-lacking
returns-clause-lacking c = lacking-worker

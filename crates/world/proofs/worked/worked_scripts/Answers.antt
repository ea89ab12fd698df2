-- The scripts compute, once the digits of a number do.
use Rattle.std.proofs.Common.{refl}
use Rattle.std.specs.Fmt.{digits}
use Rattle.world.proofs.worked.worked_scripts.Goals as goal

pub returns-clause-first_commit : goal.returns-clause-first_commit
unfolding digits
returns-clause-first_commit c = refl

pub returns-clause-lost_frame : goal.returns-clause-lost_frame
unfolding digits
returns-clause-lost_frame c = refl

pub returns-clause-conflict : goal.returns-clause-conflict
returns-clause-conflict c = refl

pub returns-clause-write_skew : goal.returns-clause-write_skew
returns-clause-write_skew c = refl

pub returns-clause-refusals : goal.returns-clause-refusals
returns-clause-refusals c = refl

pub returns-clause-stops : goal.returns-clause-stops
returns-clause-stops c = refl

pub returns-clause-bases : goal.returns-clause-bases
unfolding digits
returns-clause-bases c = refl

pub returns-clause-two_queries : goal.returns-clause-two_queries
unfolding digits
returns-clause-two_queries c = refl

pub returns-clause-added_column : goal.returns-clause-added_column
unfolding digits
returns-clause-added_column c = refl

pub returns-clause-two_workers : goal.returns-clause-two_workers
unfolding digits
returns-clause-two_workers c = refl

pub returns-clause-image : goal.returns-clause-image
unfolding digits
returns-clause-image c = refl

pub returns-clause-renewal : goal.returns-clause-renewal
unfolding digits
returns-clause-renewal c = refl

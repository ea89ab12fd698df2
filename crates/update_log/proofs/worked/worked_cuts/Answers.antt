-- The definitions compute.
use Rattle.std.proofs.Common.{refl}
use Rattle.update_log.proofs.worked.worked_cuts.Goals as goal

pub returns-clause-counts : goal.returns-clause-counts
returns-clause-counts c = refl

pub returns-clause-bytes : goal.returns-clause-bytes
returns-clause-bytes c = refl

pub returns-clause-whole : goal.returns-clause-whole
returns-clause-whole c = refl

pub returns-clause-pieces : goal.returns-clause-pieces
returns-clause-pieces c = refl

pub returns-clause-piece_bytes : goal.returns-clause-piece_bytes
returns-clause-piece_bytes c = refl

pub returns-clause-empty : goal.returns-clause-empty
returns-clause-empty c = refl

-- The law, for all entries.
use Rattle.rows.proofs.TableLaws.{overlaps-symmetric}
use Rattle.rows.proofs.laws.overlap_is_symmetric.Goals as goal

pub returns : goal.returns
returns c = overlaps-symmetric

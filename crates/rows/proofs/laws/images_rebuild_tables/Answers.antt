-- The laws, for all tables and commits.
use Rattle.rows.proofs.Imaging.{versions-rise, versions-imaged}
use Rattle.rows.proofs.ImageSpelling.{images-spelled}
use Rattle.rows.proofs.ReadBack.{row-back}
use Rattle.rows.proofs.Rebuilding.{image-rebuilds}
use Rattle.rows.proofs.Replacing.{images-replace}
use Rattle.rows.proofs.laws.images_rebuild_tables.Goals as goal

pub returns-clause-rebuilds : goal.returns-clause-rebuilds
returns-clause-rebuilds c = image-rebuilds

pub returns-clause-rise : goal.returns-clause-rise
returns-clause-rise c = versions-rise

pub returns-clause-versions : goal.returns-clause-versions
returns-clause-versions c = versions-imaged

pub returns-clause-spelled : goal.returns-clause-spelled
returns-clause-spelled c = images-spelled

pub returns-clause-back : goal.returns-clause-back
returns-clause-back c = row-back

pub returns-clause-replace : goal.returns-clause-replace
returns-clause-replace c = images-replace

-- The laws, for all columns.
use Rattle.rows.proofs.Columns.{column-fits}
use Rattle.rows.proofs.Fronts.{value-same}
use Rattle.rows.proofs.laws.columns_are_of_their_width.Goals as goal

pub returns-clause-column : goal.returns-clause-column
returns-clause-column c = column-fits

pub returns-clause-value : goal.returns-clause-value
returns-clause-value c = value-same

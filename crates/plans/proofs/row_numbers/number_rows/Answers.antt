-- Rows with these keys have these numbers.
use Rattle.plans.proofs.ColumnValues.{keyed-numbers}
use Rattle.plans.proofs.row_numbers.number_rows.Goals as goal

pub returns-clause-numbers : goal.returns-clause-numbers
returns-clause-numbers c = λ named rows sizes are.
    keyed-numbers c.keyed_rows.new.numbering.keys.items c.args.columns.now c.args.places.now c.args.count c.in_ok-numbers.numbers.items
    c.in_ok-numbers.ensures.numbers named rows sizes are

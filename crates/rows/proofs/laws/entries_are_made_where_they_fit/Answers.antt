-- The laws, for all tables.
use Rattle.rows.proofs.Presence.{rows_of-set_same, rows_of-set_other, fit-within, apply_entry-parts}
use Rattle.rows.proofs.RowLaws.{lookup-insert_entry, Leaves-change}
use Rattle.rows.proofs.laws.entries_are_made_where_they_fit.Goals as goal

pub returns-clause-made : goal.returns-clause-made
returns-clause-made c = apply_entry-parts

pub returns-clause-within : goal.returns-clause-within
returns-clause-within c = fit-within

pub returns-clause-rows : goal.returns-clause-rows
returns-clause-rows c = λ tables after entry table row h. (Leaves-change tables after entry h).rows table row

pub returns-clause-put : goal.returns-clause-put
returns-clause-put c = λ rows row values other. lookup-insert_entry other row values rows

pub returns-clause-replaced : goal.returns-clause-replaced
returns-clause-replaced c = rows_of-set_same

pub returns-clause-others : goal.returns-clause-others
returns-clause-others c = rows_of-set_other

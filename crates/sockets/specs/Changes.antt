-- What the steps of a job make of a transaction.
use Rattle.std.specs.Prelude.{ℕ, ◌+◌, Bool, true, false, List, [], ◌∷◌, Result, Ok, Err, if◌then◌else◌}
use Rattle.rows.specs.declared.commit.Commit.{Commit}
use Rattle.rows.specs.declared.value.Value.{Value}
use Rattle.rows.specs.Equality.{is_same_value}
use Rattle.rows.specs.Shape.{Shape}
use Rattle.mvcc.specs.declared.faults.TxFault.{TxFault}
use Rattle.mvcc.specs.declared.faults.TxFault.TheVariants.{Exists, Missing, Unfit, TooManyEntries, Memory}
use Rattle.mvcc.specs.Transaction.{Transaction}
use Rattle.mvcc.specs.Transactions.{get_answer, insert_answer, set_answer, delete_answer, add_column_answer}
use Rattle.sockets.specs.declared.change.Change.{Change}
use Rattle.sockets.specs.declared.change.Change.TheVariants.{Insert, Set, Delete, AddColumn}
use Rattle.sockets.specs.declared.refusal.Refusal.{Refusal}
use Rattle.sockets.specs.declared.refusal.Refusal.TheVariants as refusals
use Rattle.sockets.specs.declared.step.Step.{Step}
use Rattle.sockets.specs.declared.step.Step.TheVariants as steps

-- what one change of a transaction answers
abbrev pub change_answer : Shape → List Commit → Transaction → Change → Result Transaction TxFault
change_answer shape commits draft (Insert table row values) = insert_answer shape commits draft table row.0 values
change_answer shape commits draft (Set table row column value) = set_answer shape commits draft table row.0 column value
change_answer shape commits draft (Delete table row) = delete_answer shape commits draft table row.0
change_answer shape commits draft (AddColumn table default) = add_column_answer shape commits draft table default

-- whether a look found this value
abbrev pub has_value : Value → Result Value TxFault → Bool
has_value value (Ok found) = is_same_value found value
has_value value (Err fault) = false

-- whether a look found no row, in a table that is there
abbrev pub is_missing : Result Value TxFault → Bool
is_missing (Ok found) = false
is_missing (Err Exists) = false
is_missing (Err Missing) = true
is_missing (Err Unfit) = false
is_missing (Err TooManyEntries) = false
is_missing (Err Memory) = false

-- whether a step is a condition
abbrev pub is_condition : Step → Bool
is_condition (steps.Change change) = false
is_condition (steps.Expect table row column value) = true
is_condition (steps.Absent table row) = true

-- what a change answers that is the step of that number
abbrev pub refused_at : ℕ → Result Transaction TxFault → Result Transaction Refusal
refused_at number (Ok draft) = Ok draft
refused_at number (Err fault) = Err (refusals.Change number fault)

-- what a condition answers that is the step of that number: the transaction as it is, if it holds
abbrev pub condition_answer : ℕ → Bool → Transaction → Result Transaction Refusal
condition_answer number holds draft = if holds then Ok draft else Err (refusals.Condition number)

-- what the step of that number answers: a change is made, a condition is looked at, as the transaction sees it
abbrev pub step_answer : Shape → List Commit → ℕ → Transaction → Step → Result Transaction Refusal
step_answer shape commits number draft (steps.Change change) = refused_at number (change_answer shape commits draft change)
step_answer shape commits number draft (steps.Expect table row column value) =
    condition_answer number (has_value value (get_answer shape commits draft table row.0 column)) draft
step_answer shape commits number draft (steps.Absent table row) =
    condition_answer number (is_missing (get_answer shape commits draft table row.0 0)) draft

-- what comes after a step that is not refused
abbrev pub and_then : (Transaction → Result Transaction Refusal) → Result Transaction Refusal → Result Transaction Refusal
and_then next (Ok draft) = next draft
and_then next (Err refusal) = Err refusal

-- what steps answer, one after the other, up to the first that is refused; the first of them has that number
abbrev pub steps_answer : Shape → List Commit → ℕ → Transaction → List Step → Result Transaction Refusal
steps_answer shape commits number draft [] = Ok draft
steps_answer shape commits number draft (step ∷ steps) =
    and_then (λ next. steps_answer shape commits (number + 1) next steps) (step_answer shape commits number draft step)

-- what the steps of a job answer in a transaction that begins at that version of the list
abbrev pub job_answer : Shape → List Commit → ℕ → List Step → Result Transaction Refusal
job_answer shape commits version steps = steps_answer shape commits 0 (record { snapshot = version; entries = [] }) steps

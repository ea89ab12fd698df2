-- What is spelled so is read: the words of an event give it.
use Rattle.std.proofs.Common.{◌≡◌, ℕ, ◌<◌, ◌^◌, List, [], ◌∷◌, Option}
use Rattle.std.proofs.Common.{None, Some, Result, Ok, Err}
use Rattle.std.proofs.Common.{refl, arith, decimal}
use Rattle.rows.specs.declared.row_id.RowId.{RowId}
use Rattle.rows.specs.declared.value.Value.{Value}
use Rattle.script.specs.declared.event.Event.{Event}
use Rattle.script.specs.declared.event.Event.TheVariants.{Begin, Insert, Set, Delete, Get, Commit, Abort, Flush, Push, Deliver, Show, Open}
use Rattle.script.specs.declared.event.Event.TheVariants.{Ask, Renew, Run, Stop, Start, Version, Dump, Restart, Raw, AddColumn, Base}
use Rattle.script.specs.declared.event.Node.{Node}
use Rattle.script.specs.declared.event.Node.TheVariants.{Primary, Replica}
use Rattle.script.specs.declared.setup.Setup.{Setup}
use Rattle.script.specs.declared.faults.Reason.{Reason}
use Rattle.script.specs.declared.faults.Reason.TheVariants.{UnknownEvent, NoTable}
use Rattle.script.specs.EventText.{event_words, tables_in, node_text}
use Rattle.script.specs.Events.{HasLine, IsPossible, IsThere}
use Rattle.script.specs.Tables.{table_called}
use Rattle.script.specs.Inner.Reading.{on_table, row_of, node_of, begin_of, commit_of, abort_of, flush_of}
use Rattle.script.specs.Inner.WordReading.{or_no_table}
use Rattle.script.specs.Inner.Reading.{pair_of, base_of, stop_of, start_of, raw_of}
use Rattle.script.specs.Inner.Reading.{deliver_of, show_of, replica_of, insert_of, set_of, delete_of, add_column_of, get_of, open_of}
use Rattle.script.specs.Inner.PlanReading.{plan_of}
use Rattle.script.specs.Inner.Reading.{open_event}
use Rattle.script.specs.Inner.Reading.{one_of, two_of, three_of, four_of, five_of, three_and_more}
use Rattle.script.specs.Inner.Reading.{replica_event, network_event, primary_event, event_of}
use Rattle.script.specs.Tables.{AreNamed}
use Rattle.script.specs.PlanText.{plan_words}
use Rattle.script.specs.Inner.PlanReading.{plan_of}
use Rattle.script.proofs.Tables.{table_of-name}
use Rattle.script.proofs.Numbers.{number_of-decimal, below_of-decimal}
use Rattle.script.proofs.Hex.{hex_of-text}
use Rattle.script.proofs.Values.{value_of-text, values_of-text}

-- an event on the table of a number that was looked up
abbrev pub tabled : Option ℕ → (ℕ → Event) → Result Event Reason
tabled None make = Err NoTable
tabled (Some table) make = Ok (make table)

-- an event with the tables of these names
abbrev pub at_tables : Setup → (ℕ → List ℕ) → Event → Result Event Reason
at_tables setup naming (Insert transaction table row values) =
    tabled (table_called setup.schema (naming table)) (λ found. Insert transaction found row values)
at_tables setup naming (Set transaction table row column value) =
    tabled (table_called setup.schema (naming table)) (λ found. Set transaction found row column value)
at_tables setup naming (Delete transaction table row) =
    tabled (table_called setup.schema (naming table)) (λ found. Delete transaction found row)
at_tables setup naming (AddColumn transaction table default) =
    tabled (table_called setup.schema (naming table)) (λ found. AddColumn transaction found default)
at_tables setup naming (Get transaction table row column) =
    tabled (table_called setup.schema (naming table)) (λ found. Get transaction found row column)
at_tables setup naming (Open replica plan) = open_event (Some replica) (plan_of setup.schema (plan_words naming plan))
at_tables setup naming other = Ok other

-- what words give
abbrev pub words_event : Setup → List (List ℕ) → Result Event Reason
words_event setup [] = Err UnknownEvent
words_event setup (first ∷ words) = event_of setup first words

placed-tabled : {A : Type 0} (parts : A) (found : Option ℕ) (make : A → ℕ → Event)
    → on_table (Some parts) (or_no_table found) make ≡ tabled found (make parts)
placed-tabled parts None make = refl
placed-tabled parts (Some table) make = refl

row_of-text : (transaction : ℕ) (row : RowId) → transaction < 2 ^ 64 → row.0 < 2 ^ 64
    → row_of (decimal transaction) (decimal row.0) ≡ Some (transaction, row)
unfolding row_of
row_of-text transaction row h k = rw (number_of-decimal transaction h) (rw (number_of-decimal row.0 k) refl)

node_of-text : (replicas : ℕ) (node : Node) → replicas < 2 ^ 64 → IsThere replicas node → node_of replicas (node_text node) ≡ Some node
unfolding node_of
node_of-text replicas Primary h there = refl
node_of-text replicas (Replica number) h there = rw (below_of-decimal replicas number there (omega arith)) refl

-- the words of an event give it, on the tables of its names
pub complete : (setup : Setup) (naming : ℕ → List ℕ) (event : Event) → setup.workers < 2 ^ 64 → setup.replicas < 2 ^ 64
    → AreNamed naming (tables_in event) → HasLine event → IsPossible setup.workers setup.replicas event
    → words_event setup (event_words naming event) ≡ at_tables setup naming event
unfolding event_of primary_event network_event replica_event begin_of commit_of abort_of flush_of base_of stop_of start_of pair_of
    deliver_of raw_of show_of replica_of insert_of set_of delete_of add_column_of get_of open_of one_of two_of three_of four_of five_of
    three_and_more
complete setup naming Begin w r named form possible = refl
complete setup naming (Insert transaction table row []) w r named form possible = absurd (omega arith)
complete setup naming (Insert transaction table row (value ∷ values)) w r named form possible =
    rw (row_of-text transaction row form.0 form.1)
    (rw (values_of-text (value ∷ values) form.3)
    (rw (table_of-name setup.schema (naming table) named.0)
    (placed-tabled {A = (ℕ × RowId) × List Value} ((transaction, row), value ∷ values) (table_called setup.schema (naming table))
    (λ parts found. Insert parts.0.0 found parts.0.1 parts.1))))
complete setup naming (Set transaction table row column value) w r named form possible =
    rw (row_of-text transaction row form.0 form.1)
    (rw (below_of-decimal (2 ^ 8) column form.2 (omega arith))
    (rw (value_of-text value form.3)
    (rw (table_of-name setup.schema (naming table) named.0)
    (placed-tabled {A = (ℕ × RowId) × (ℕ × Value)} ((transaction, row), (column, value)) (table_called setup.schema (naming table))
    (λ parts found. Set parts.0.0 found parts.0.1 parts.1.0 parts.1.1)))))
complete setup naming (Delete transaction table row) w r named form possible =
    rw (row_of-text transaction row form.0 form.1)
    (rw (table_of-name setup.schema (naming table) named.0)
    (placed-tabled {A = ℕ × RowId} (transaction, row) (table_called setup.schema (naming table)) (λ at found. Delete at.0 found at.1)))
complete setup naming (AddColumn transaction table default) w r named form possible =
    rw (number_of-decimal transaction form.0)
    (rw (value_of-text default form.1)
    (rw (table_of-name setup.schema (naming table) named.0)
    (placed-tabled {A = ℕ × Value} (transaction, default) (table_called setup.schema (naming table))
    (λ parts found. AddColumn parts.0 found parts.1))))
complete setup naming (Get transaction table row column) w r named form possible =
    rw (row_of-text transaction row form.0 form.1)
    (rw (below_of-decimal (2 ^ 8) column form.2 (omega arith))
    (rw (table_of-name setup.schema (naming table) named.0)
    (placed-tabled {A = (ℕ × RowId) × ℕ} ((transaction, row), column) (table_called setup.schema (naming table))
    (λ parts found. Get parts.0.0 found parts.0.1 parts.1))))
complete setup naming (Commit transaction worker) w r named form possible =
    rw (number_of-decimal transaction form) (rw (below_of-decimal setup.workers worker possible (omega arith)) refl)
complete setup naming (Abort transaction) w r named form possible = rw (number_of-decimal transaction form) refl
complete setup naming (Flush count) w r named form possible = rw (below_of-decimal (2 ^ 32) count form (omega arith)) refl
complete setup naming Base w r named form possible = refl
complete setup naming (Stop bytes) w r named form possible = rw (number_of-decimal bytes form) refl
complete setup naming Start w r named form possible = refl
complete setup naming (Push worker seq) w r named form possible =
    rw (below_of-decimal setup.workers worker possible (omega arith)) (rw (number_of-decimal seq form) refl)
complete setup naming (Deliver index node) w r named form possible =
    rw (number_of-decimal index form) (rw (node_of-text setup.replicas node r possible) refl)
complete setup naming (Show index) w r named form possible = rw (number_of-decimal index form) refl
complete setup naming (Open replica plan) w r named form possible =
    rw (below_of-decimal setup.replicas replica possible (omega arith)) refl
complete setup naming (Ask replica) w r named form possible = rw (below_of-decimal setup.replicas replica possible (omega arith)) refl
complete setup naming (Renew replica) w r named form possible = rw (below_of-decimal setup.replicas replica possible (omega arith)) refl
complete setup naming (Run replica) w r named form possible = rw (below_of-decimal setup.replicas replica possible (omega arith)) refl
complete setup naming (Version replica) w r named form possible =
    rw (below_of-decimal setup.replicas replica possible (omega arith)) refl
complete setup naming (Dump replica) w r named form possible = rw (below_of-decimal setup.replicas replica possible (omega arith)) refl
complete setup naming (Restart replica boot) w r named form possible =
    let there = possible.0 in rw (below_of-decimal setup.replicas replica there (omega arith)) (rw (number_of-decimal boot form) refl)
complete setup naming (Raw node bytes) w r named form possible =
    rw (node_of-text setup.replicas node r possible.0) (rw (hex_of-text bytes form) refl)

-- What the words of a line give, step by step, as the code finds it. The lines that are events are said without it, in
-- `EventLines`; that both agree is proved.
use Rattle.std.specs.Prelude.{ℕ, ◌^◌, List, [], ◌∷◌, drop, Bool, ◌==◌, Option, None, Some, Result, Ok, Err}
use Rattle.std.specs.Prelude.{if◌then◌else◌, slice_index, codes}
use Rattle.std.specs.List.{list_any}
use Rattle.std.specs.Str.{bytes_eq}
use Rattle.rows.specs.declared.kind.Kind.{Kind}
use Rattle.rows.specs.declared.row_id.RowId.{RowId}
use Rattle.queries.specs.declared.plan.Plan.{Plan}
use Rattle.script.specs.declared.faults.Reason.{Reason}
use Rattle.script.specs.declared.faults.Reason.TheVariants.{BadSetting, UnknownEvent, BadWords}
use Rattle.script.specs.Inner.WordReading.{number_of, below_of, value_of, values_in_words, hex_of, table_of, both, two, made}
use Rattle.script.specs.Inner.PlanReading.{plan_of}
use Rattle.script.specs.declared.event.Event.{Event}
use Rattle.script.specs.declared.event.Event.TheVariants.{Begin, Insert, Set, Delete, Get, Commit, Abort, Flush, Push, Deliver, Show, Open}
use Rattle.script.specs.declared.event.Event.TheVariants.{Ask, Renew, Run, Stop, Start, Version, Dump, Restart, Raw, AddColumn, Base}
use Rattle.script.specs.declared.event.Node.{Node}
use Rattle.script.specs.declared.event.Node.TheVariants.{Primary, Replica}
use Rattle.script.specs.declared.setup.Setup.{Setup}
use Rattle.script.specs.EventLines.{setting_names}

-- the node that a word is
unfoldable pub node_of : ℕ → List ℕ → Option Node
node_of replicas word =
    if bytes_eq word (codes "p") then Some Primary else
    if slice_index word 0 == 114 then made Replica (below_of replicas (drop 1 word)) else None

-- an event, once its parts are there, on a table
abbrev pub on_table : {A : Type 0} → Option A → Result ℕ Reason → (A → ℕ → Event) → Result Event Reason
on_table None table make = Err BadWords
on_table (Some parts) (Err reason) make = Err reason
on_table (Some parts) (Ok table) make = Ok (make parts table)

-- so many words and no others
unfoldable pub one_of : List (List ℕ) → Option (List ℕ)
one_of (a ∷ []) = Some a
one_of other = None

unfoldable pub two_of : List (List ℕ) → Option (List ℕ × List ℕ)
two_of (a ∷ b ∷ []) = Some (a, b)
two_of other = None

unfoldable pub three_of : List (List ℕ) → Option (List ℕ × List ℕ × List ℕ)
three_of (a ∷ b ∷ c ∷ []) = Some (a, b, c)
three_of other = None

unfoldable pub four_of : List (List ℕ) → Option (List ℕ × List ℕ × List ℕ × List ℕ)
four_of (a ∷ b ∷ c ∷ d ∷ []) = Some (a, b, c, d)
four_of other = None

unfoldable pub five_of : List (List ℕ) → Option (List ℕ × List ℕ × List ℕ × List ℕ × List ℕ)
five_of (a ∷ b ∷ c ∷ d ∷ e ∷ []) = Some (a, b, c, d, e)
five_of other = None

-- three words, and one or more behind them
unfoldable pub three_and_more : List (List ℕ) → Option (List ℕ × List ℕ × List ℕ × List (List ℕ))
three_and_more (a ∷ b ∷ c ∷ d ∷ more) = Some (a, b, c, d ∷ more)
three_and_more other = None

-- what words give, where there are as many as wanted
abbrev pub given_as_wanted : {A B : Type 0} → Option A → (A → Option B) → Option B
given_as_wanted None read = None
given_as_wanted (Some words) read = read words

abbrev pub given_or_bad : {A B : Type 0} → Option A → (A → Result B Reason) → Result B Reason
given_or_bad None read = Err BadWords
given_or_bad (Some words) read = read words

-- the events of the words behind the first one
unfoldable pub begin_of : List (List ℕ) → Option Event
begin_of [] = Some Begin
begin_of (word ∷ words) = None

unfoldable pub commit_of : ℕ → List (List ℕ) → Option Event
commit_of workers words = given_as_wanted (two_of words) (λ it. both (number_of it.0) (below_of workers it.1) Commit)

unfoldable pub abort_of : List (List ℕ) → Option Event
abort_of words = given_as_wanted (one_of words) (λ it. made Abort (number_of it))

unfoldable pub flush_of : List (List ℕ) → Option Event
flush_of words = given_as_wanted (one_of words) (λ it. made Flush (below_of (2 ^ 32) it))

unfoldable pub base_of : List (List ℕ) → Option Event
base_of [] = Some Base
base_of (word ∷ words) = None

unfoldable pub stop_of : List (List ℕ) → Option Event
stop_of words = given_as_wanted (one_of words) (λ it. made Stop (number_of it))

unfoldable pub start_of : List (List ℕ) → Option Event
start_of [] = Some Start
start_of (word ∷ words) = None

-- a number below a limit, and another one
unfoldable pub pair_of : ℕ → List (List ℕ) → Option (ℕ × ℕ)
pair_of limit words = given_as_wanted (two_of words) (λ it. two (below_of limit it.0) (number_of it.1))

unfoldable pub deliver_of : ℕ → List (List ℕ) → Option Event
deliver_of replicas words = given_as_wanted (two_of words) (λ it. both (number_of it.0) (node_of replicas it.1) Deliver)

unfoldable pub show_of : List (List ℕ) → Option Event
show_of words = given_as_wanted (one_of words) (λ it. made Show (number_of it))

unfoldable pub replica_of : ℕ → List (List ℕ) → Option ℕ
replica_of replicas words = given_as_wanted (one_of words) (λ it. below_of replicas it)

abbrev pub row_id : ℕ → RowId
row_id id = record { 0 = id }

-- the number of a transaction, and that of a row
unfoldable pub row_of : List ℕ → List ℕ → Option (ℕ × RowId)
row_of transaction row = two (number_of transaction) (made row_id (number_of row))

unfoldable pub insert_of : List (List ℕ × List Kind) → List (List ℕ) → Result Event Reason
insert_of schema words =
    given_or_bad (three_and_more words) (λ it. on_table (two (row_of it.0 it.2) (values_in_words it.3)) (table_of schema it.1)
    (λ parts table. Insert parts.0.0 table parts.0.1 parts.1))

unfoldable pub set_of : List (List ℕ × List Kind) → List (List ℕ) → Result Event Reason
set_of schema words =
    given_or_bad (five_of words) (λ it. on_table (two (row_of it.0 it.2) (two (below_of (2 ^ 8) it.3) (value_of it.4)))
    (table_of schema it.1) (λ parts table. Set parts.0.0 table parts.0.1 parts.1.0 parts.1.1))

unfoldable pub delete_of : List (List ℕ × List Kind) → List (List ℕ) → Result Event Reason
delete_of schema words =
    given_or_bad (three_of words) (λ it. on_table (row_of it.0 it.2) (table_of schema it.1) (λ at table. Delete at.0 table at.1))

unfoldable pub add_column_of : List (List ℕ × List Kind) → List (List ℕ) → Result Event Reason
add_column_of schema words =
    given_or_bad (three_of words) (λ it. on_table (two (number_of it.0) (value_of it.2)) (table_of schema it.1)
    (λ parts table. AddColumn parts.0 table parts.1))

unfoldable pub get_of : List (List ℕ × List Kind) → List (List ℕ) → Result Event Reason
get_of schema words =
    given_or_bad (four_of words) (λ it. on_table (two (row_of it.0 it.2) (below_of (2 ^ 8) it.3)) (table_of schema it.1)
    (λ parts table. Get parts.0.0 table parts.0.1 parts.1))

abbrev pub open_event : Option ℕ → Result Plan Reason → Result Event Reason
open_event None plan = Err BadWords
open_event (Some number) (Err reason) = Err reason
open_event (Some number) (Ok plan) = Ok (Open number plan)

unfoldable pub open_of : List (List ℕ × List Kind) → ℕ → List (List ℕ) → Result Event Reason
open_of schema replicas (replica ∷ plan) = open_event (below_of replicas replica) (plan_of schema plan)
open_of schema replicas [] = Err BadWords

unfoldable pub raw_of : ℕ → List (List ℕ) → Option Event
raw_of replicas words = given_as_wanted (two_of words) (λ it. both (node_of replicas it.0) (hex_of it.1) Raw)

abbrev pub or_bad_words : Option Event → Result Event Reason
or_bad_words None = Err BadWords
or_bad_words (Some event) = Ok event

abbrev pub is_setting : List ℕ → Bool
is_setting word = list_any (λ name. bytes_eq word name) setting_names

-- events of a replica that are numbers alone
unfoldable pub replica_event : ℕ → List ℕ → List (List ℕ) → Result Event Reason
replica_event replicas first words =
    if bytes_eq first (codes "ask") then or_bad_words (made Ask (replica_of replicas words)) else
    if bytes_eq first (codes "renew") then or_bad_words (made Renew (replica_of replicas words)) else
    if bytes_eq first (codes "run") then or_bad_words (made Run (replica_of replicas words)) else
    if bytes_eq first (codes "version") then or_bad_words (made Version (replica_of replicas words)) else
    if bytes_eq first (codes "dump") then or_bad_words (made Dump (replica_of replicas words)) else
    if bytes_eq first (codes "restart") then or_bad_words (made (λ it. Restart it.0 it.1) (pair_of replicas words)) else
    if is_setting first then Err BadSetting else Err UnknownEvent

-- events of the network
unfoldable pub network_event : Setup → List ℕ → List (List ℕ) → Result Event Reason
network_event setup first words =
    if bytes_eq first (codes "push") then or_bad_words (made (λ it. Push it.0 it.1) (pair_of setup.workers words)) else
    if bytes_eq first (codes "deliver") then or_bad_words (deliver_of setup.replicas words) else
    if bytes_eq first (codes "show") then or_bad_words (show_of words) else replica_event setup.replicas first words

-- events of the primary that name no table
unfoldable pub primary_event : Setup → List ℕ → List (List ℕ) → Result Event Reason
primary_event setup first words =
    if bytes_eq first (codes "begin") then or_bad_words (begin_of words) else
    if bytes_eq first (codes "commit") then or_bad_words (commit_of setup.workers words) else
    if bytes_eq first (codes "abort") then or_bad_words (abort_of words) else
    if bytes_eq first (codes "flush") then or_bad_words (flush_of words) else
    if bytes_eq first (codes "base") then or_bad_words (base_of words) else
    if bytes_eq first (codes "stop") then or_bad_words (stop_of words) else
    if bytes_eq first (codes "start") then or_bad_words (start_of words) else network_event setup first words

-- the event of a line whose first word is this, and the others behind it
unfoldable pub event_of : Setup → List ℕ → List (List ℕ) → Result Event Reason
event_of setup first words =
    if bytes_eq first (codes "insert") then insert_of setup.schema words else
    if bytes_eq first (codes "set") then set_of setup.schema words else
    if bytes_eq first (codes "delete") then delete_of setup.schema words else
    if bytes_eq first (codes "column") then add_column_of setup.schema words else
    if bytes_eq first (codes "get") then get_of setup.schema words else
    if bytes_eq first (codes "open") then open_of setup.schema setup.replicas words else
    if bytes_eq first (codes "raw") then or_bad_words (raw_of setup.replicas words) else primary_event setup first words

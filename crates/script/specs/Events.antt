-- Which events may be asked for, and which a line can have.
use Rattle.std.specs.Prelude.{ℕ, ◌^◌, ◌<◌, length}
use Rattle.std.specs.List.{AllByRecursion}
use Rattle.rows.specs.declared.value.Value.{Value}
use Rattle.rows.specs.declared.value.Value.TheVariants as values
use Rattle.rows.specs.Spelling.{AreBytes}
use Rattle.script.specs.PlanText.{HasPlanWords}
use Rattle.script.specs.Values.{HasWord}
use Rattle.script.specs.declared.event.Event.{Event}
use Rattle.script.specs.declared.event.Event.TheVariants as events
use Rattle.script.specs.declared.event.Node.{Node}
use Rattle.script.specs.declared.event.Node.TheVariants as nodes

-- a node that is there
abbrev pub IsThere : ℕ → Node → Type 0
IsThere replicas nodes.Primary = Unit {0}
IsThere replicas (nodes.Replica number) = number < replicas

-- a value that a program can hold: octets are bytes
abbrev pub IsValue : Value → Type 0
IsValue (values.Int number) = Unit {0}
IsValue (values.Octets bytes) = AreBytes bytes

-- an event that may be asked for: the workers and replicas that it names are there, the identifier of a row that it
-- changes has 64 bits, and its values and bytes can be held
abbrev pub IsPossible : ℕ → ℕ → Event → Type 0
IsPossible workers replicas (events.Insert transaction table row values) = (row.0 < 2 ^ 64) × AllByRecursion IsValue values
IsPossible workers replicas (events.Set transaction table row column value) = (row.0 < 2 ^ 64) × IsValue value
IsPossible workers replicas (events.Delete transaction table row) = row.0 < 2 ^ 64
IsPossible workers replicas (events.AddColumn transaction table default) = IsValue default
IsPossible workers replicas (events.Commit transaction worker) = worker < workers
IsPossible workers replicas (events.Push worker seq) = worker < workers
IsPossible workers replicas (events.Deliver index node) = IsThere replicas node
IsPossible workers replicas (events.Open replica plan) = replica < replicas
IsPossible workers replicas (events.Ask replica) = replica < replicas
IsPossible workers replicas (events.Renew replica) = replica < replicas
IsPossible workers replicas (events.Run replica) = replica < replicas
IsPossible workers replicas (events.Version replica) = replica < replicas
IsPossible workers replicas (events.Dump replica) = replica < replicas
IsPossible workers replicas (events.Restart replica boot) = (replica < replicas) × (boot < 2 ^ 64)
IsPossible workers replicas (events.Raw node bytes) = IsThere replicas node × AreBytes bytes
IsPossible workers replicas other = Unit {0}

-- an event that a line can have: a column is a number of 8 bits, the count of a flush one of 32 and each other number
-- one of 64, a row is put in with at least one value, and words can have the values, the bytes and the plan
abbrev pub HasLine : Event → Type 0
HasLine (events.Insert transaction table row values) =
    (transaction < 2 ^ 64) × (row.0 < 2 ^ 64) × (0 < length values) × AllByRecursion HasWord values
HasLine (events.Set transaction table row column value) =
    (transaction < 2 ^ 64) × (row.0 < 2 ^ 64) × (column < 2 ^ 8) × HasWord value
HasLine (events.Delete transaction table row) = (transaction < 2 ^ 64) × (row.0 < 2 ^ 64)
HasLine (events.AddColumn transaction table default) = (transaction < 2 ^ 64) × HasWord default
HasLine (events.Get transaction table row column) = (transaction < 2 ^ 64) × (row.0 < 2 ^ 64) × (column < 2 ^ 8)
HasLine (events.Commit transaction worker) = transaction < 2 ^ 64
HasLine (events.Abort transaction) = transaction < 2 ^ 64
HasLine (events.Flush count) = count < 2 ^ 32
HasLine (events.Stop bytes) = bytes < 2 ^ 64
HasLine (events.Push worker seq) = seq < 2 ^ 64
HasLine (events.Deliver index node) = index < 2 ^ 64
HasLine (events.Show index) = index < 2 ^ 64
HasLine (events.Open replica plan) = HasPlanWords plan
HasLine (events.Restart replica boot) = boot < 2 ^ 64
HasLine (events.Raw node bytes) = AreBytes bytes
HasLine other = Unit {0}

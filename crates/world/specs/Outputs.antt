-- What an event answers, from what transactions, the primary and replicas answer.
use Rattle.std.specs.Prelude.{ℕ, ◌+◌, List, [], ◌∷◌, length, Result, Ok, Err}
use Rattle.rows.specs.declared.value.Value.{Value}
use Rattle.mvcc.specs.declared.faults.TxFault.{TxFault}
use Rattle.mvcc.specs.declared.faults.TxFault.TheVariants as changes
use Rattle.primary.specs.declared.faults.CommitFault.{CommitFault}
use Rattle.primary.specs.declared.faults.CommitFault.TheVariants as commits
use Rattle.wire.specs.declared.out.Out.{Out}
use Rattle.dispatcher.specs.declared.faults.OpenFault.{OpenFault}
use Rattle.dispatcher.specs.declared.faults.OpenFault.TheVariants as opens
use Rattle.dispatcher.specs.declared.faults.AskFault.{AskFault}
use Rattle.dispatcher.specs.declared.faults.AskFault.TheVariants as asks
use Rattle.dispatcher.specs.declared.outcome.Got.{Got}
use Rattle.dispatcher.specs.declared.outcome.Got.TheVariants as got
use Rattle.script.specs.declared.sent.Sent.{Sent}
use Rattle.script.specs.declared.output.Output.{Output}
use Rattle.script.specs.declared.output.Output.TheVariants as outputs

-- a refused call of a transaction
abbrev pub of_change : TxFault → Output
of_change changes.Exists = outputs.Exists
of_change changes.Missing = outputs.Missing
of_change changes.Unfit = outputs.Unfit
of_change changes.TooManyEntries = outputs.TooManyEntries
of_change changes.Memory = outputs.Memory

-- a look at a column
abbrev pub of_look : Result Value TxFault → Output
of_look (Ok value) = outputs.Value value
of_look (Err fault) = of_change fault

-- a refused commit
abbrev pub of_commit : CommitFault → Output
of_commit (commits.Conflict number) = outputs.Conflict number
of_commit commits.ReadOnly = outputs.ReadOnly
of_commit commits.Failed = outputs.Failed
of_commit commits.NumbersUsedUp = outputs.NumbersUsedUp
of_commit commits.Memory = outputs.Memory
of_commit commits.Foreign = outputs.Foreign

-- a refused query
abbrev pub of_open : OpenFault → Output
of_open opens.BatchFull = outputs.BatchFull
of_open (opens.BadPlan fault) = outputs.BadPlan fault
of_open opens.Broken = outputs.Broken
of_open opens.Memory = outputs.Memory

-- a refused ask or renewal
abbrev pub of_ask : AskFault → Output
of_ask asks.Busy = outputs.Busy
of_ask asks.Empty = outputs.Empty
of_ask asks.NoHead = outputs.NoHead
of_ask asks.Broken = outputs.Broken

-- what a replica made of bytes
abbrev pub of_got : Got → Output
of_got got.Stored = outputs.Stored
of_got got.Repeat = outputs.Repeat
of_got got.Ahead = outputs.Ahead
of_got (got.Head version) = outputs.Head version
of_got got.Ignored = outputs.Ignored
of_got got.Memory = outputs.Memory
of_got got.Broken = outputs.Broken

-- the indices and lengths of datagrams that are sent one after the other, from this index on
abbrev pub sent_from : ℕ → List Out → List Sent
sent_from index [] = []
sent_from index (out ∷ outs) = record { index = index; len = length out.packet } ∷ sent_from (index + 1) outs

-- the datagrams' bytes
abbrev pub packets_of : List Out → List (List ℕ)
packets_of [] = []
packets_of (out ∷ outs) = out.packet ∷ packets_of outs

-- what the primary made of bytes
abbrev pub of_answers : ℕ → List Out → Output
of_answers index [] = outputs.Ignored
of_answers index (out ∷ outs) = outputs.Sent (sent_from index (out ∷ outs))

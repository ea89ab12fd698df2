-- The lines of outputs: one, but two for a run that waits for a frame or a piece, one for each datagram that was sent, and as many as
-- it has for a report or for the text of tables.
use Rattle.std.specs.Prelude.{ℕ, List, [], ◌∷◌, ◌++◌, codes, decimal}
use Rattle.std.specs.List.{flat_map}
use Rattle.rows.specs.Text.{hex_text, value_text, line_text}
use Rattle.queries.specs.declared.faults.PlanFault.{PlanFault}
use Rattle.queries.specs.declared.faults.PlanFault.TheVariants.{NoTable, NoColumn, WrongKind, TooMany, NoAggregate}
use Rattle.script.specs.declared.sent.Sent.{Sent as SentOne}
use Rattle.script.specs.declared.output.Output.{Output}
use Rattle.script.specs.declared.output.Output.TheVariants.{Tx, Accepted, Exists, Missing, Unfit, TooManyEntries, NoTx, Value, Ticket}
use Rattle.script.specs.declared.output.Output.TheVariants.{Conflict, ReadOnly, NumbersUsedUp, Foreign, Failed, Durable, Sent, NoFrame}
use Rattle.script.specs.declared.output.Output.TheVariants.{NeverSent, Stored, Repeat, Ahead, Head, Ignored, Shown, Opened, BatchFull}
use Rattle.script.specs.declared.output.Output.TheVariants.{BadPlan, Busy, Empty, NoHead, NoBatch, WaitingHead, WaitingPiece}
use Rattle.script.specs.declared.output.Output.TheVariants.{Broken, Memory, Stopped, Running, Version, Dump, Boot, BootUsed, Forged}
use Rattle.script.specs.declared.output.Output.TheVariants.{Waiting, Report, Inconsistent, Based}

-- the number of a plan's fault
abbrev pub fault_number : PlanFault → ℕ
fault_number NoTable = 1
fault_number NoColumn = 2
fault_number WrongKind = 3
fault_number TooMany = 4
fault_number NoAggregate = 5

-- the words of an output that has nothing else
abbrev pub word_of : Output → List ℕ
word_of Accepted = codes "ok"
word_of Exists = codes "exists"
word_of Missing = codes "missing"
word_of Unfit = codes "unfit"
word_of TooManyEntries = codes "too many entries"
word_of NoTx = codes "no tx"
word_of ReadOnly = codes "read only"
word_of NumbersUsedUp = codes "numbers used up"
word_of Foreign = codes "foreign"
word_of Failed = codes "failed"
word_of Stopped = codes "stopped"
word_of Running = codes "running"
word_of NoFrame = codes "no frame"
word_of NeverSent = codes "never sent"
word_of Stored = codes "stored"
word_of Repeat = codes "repeat"
word_of Ahead = codes "ahead"
word_of Ignored = codes "ignored"
word_of BatchFull = codes "batch full"
word_of Busy = codes "busy"
word_of Empty = codes "empty"
word_of NoHead = codes "no head"
word_of NoBatch = codes "no batch"
word_of WaitingHead = codes "waiting head"
word_of Inconsistent = codes "inconsistent"
word_of Broken = codes "broken"
word_of Memory = codes "memory"
word_of BootUsed = codes "boot used"
word_of Forged = codes "forged"
word_of other = []

-- a line of words and a number
abbrev pub numbered : List ℕ → ℕ → List ℕ
numbered word number = line_text (word ∷ decimal number ∷ [])

-- a datagram that was sent: its index, and its length in bytes
abbrev pub sent_text : SentOne → List ℕ
sent_text sent = line_text (codes "sent" ∷ decimal sent.index ∷ decimal sent.len ∷ [])

-- the frame of a worker that is missing
abbrev pub waiting_text : ℕ → ℕ → List ℕ
waiting_text worker seq = line_text (codes "waiting" ∷ decimal worker ∷ decimal seq ∷ [])

-- the lines of an output
abbrev pub output_text : Output → List ℕ
output_text (Tx number snapshot) = line_text (codes "tx" ∷ decimal number ∷ codes "at" ∷ decimal snapshot ∷ [])
output_text (Value value) = line_text (codes "value" ∷ value_text value ∷ [])
output_text (Ticket number) = numbered (codes "ticket") number
output_text (Conflict number) = numbered (codes "conflict") number
output_text (Durable count) = numbered (codes "durable") count
output_text (Based base pieces) = line_text (codes "base" ∷ decimal base ∷ codes "pieces" ∷ decimal pieces ∷ [])
output_text (Head version) = numbered (codes "head") version
output_text (Opened count) = numbered (codes "opened") count
output_text (BadPlan fault) = numbered (codes "bad plan") (fault_number fault)
output_text (Sent list) = flat_map sent_text list
output_text (Shown bytes) = line_text (hex_text bytes ∷ [])
output_text (WaitingPiece number pull) = numbered (codes "waiting piece") number ++ sent_text pull
output_text (Waiting worker seq want) = waiting_text worker seq ++ sent_text want
output_text (Report text) = text
output_text (Version version) = numbered (codes "version") version
output_text (Dump text) = text
output_text (Boot boot) = numbered (codes "boot") boot
output_text other = line_text (word_of other ∷ [])

-- the text of outputs
abbrev pub outputs_text : List Output → List ℕ
outputs_text outputs = flat_map output_text outputs

-- Which lines of jobs there are, and what each says.
use Rattle.std.specs.Prelude.{◌≡◌, ℕ, List, ◌++◌, drop, length, Bool, true, false, Option, None, Some, Result, Ok, Err, ◌⊎◌}
use Rattle.std.specs.Prelude.{codes, if◌then◌else◌}
use Rattle.std.specs.Str.{bytes_eq}
use Rattle.script.specs.declared.event.Event.{Event}
use Rattle.script.specs.declared.event.Event.TheVariants as events
use Rattle.script.specs.declared.faults.Reason.{Reason}
use Rattle.script.specs.declared.faults.Reason.TheVariants.{UnknownEvent}
use Rattle.script.specs.declared.setup.Setup.{Setup}
use Rattle.script.specs.EventLines.{IsEventLine, IsEventFault, first_word}
use Rattle.script.specs.Scripts.{is_kept}
use Rattle.requests.specs.declared.dialect.Dialect.{Dialect}
use Rattle.requests.specs.declared.dialect.Dialect.TheVariants.{Jobs, Live}
use Rattle.sockets.specs.declared.change.Change.TheVariants as changes
use Rattle.sockets.specs.declared.step.Step.TheVariants as steps
use Rattle.requests.specs.declared.job_line.JobLine.{JobLine}
use Rattle.requests.specs.declared.job_line.JobLine.TheVariants as lines
use Rattle.requests.specs.declared.word.Word.{Word}
use Rattle.requests.specs.declared.word.Word.TheVariants.{Job, Insert, Set, Delete, Column, Expect, Absent, Get}

-- what a first word says in each dialect
abbrev pub change_word : List ℕ → Option Word
change_word word =
    if bytes_eq word (codes "job") then Some Job else
    if bytes_eq word (codes "insert") then Some Insert else
    if bytes_eq word (codes "set") then Some Set else
    if bytes_eq word (codes "delete") then Some Delete else
    if bytes_eq word (codes "column") then Some Column else None

-- and what another says in that of live jobs
abbrev pub live_word : List ℕ → Option Word
live_word word =
    if bytes_eq word (codes "expect") then Some Expect else
    if bytes_eq word (codes "absent") then Some Absent else
    if bytes_eq word (codes "get") then Some Get else None

abbrev pub or_live : Dialect → List ℕ → Option Word → Option Word
or_live dialect word (Some change) = Some change
or_live Jobs word None = None
or_live Live word None = live_word word

-- what a first word says in a dialect
abbrev pub word_of : Dialect → List ℕ → Option Word
word_of dialect word = or_live dialect word (change_word word)

-- the event whose line a line with this first word is like
abbrev pub event_name : Word → List ℕ
event_name Job = codes "commit"
event_name Insert = codes "insert"
event_name Set = codes "set"
event_name Expect = codes "set"
event_name Delete = codes "delete"
event_name Absent = codes "delete"
event_name Column = codes "column"
event_name Get = codes "get"

-- what the event of such a line says, of whichever transaction; no other event is read for it
abbrev pub meaning : Word → Event → Result JobLine Reason
meaning Job (events.Commit transaction worker) = Ok (lines.Job worker)
meaning Insert (events.Insert transaction table row values) = Ok (lines.Step (steps.Change (changes.Insert table row values)))
meaning Set (events.Set transaction table row column value) = Ok (lines.Step (steps.Change (changes.Set table row column value)))
meaning Delete (events.Delete transaction table row) = Ok (lines.Step (steps.Change (changes.Delete table row)))
meaning Column (events.AddColumn transaction table default) = Ok (lines.Step (steps.Change (changes.AddColumn table default)))
meaning Expect (events.Set transaction table row column value) = Ok (lines.Step (steps.Expect table row column value))
meaning Absent (events.Delete transaction table row) = Ok (lines.Step (steps.Absent table row))
meaning Get (events.Get transaction table row column) = Ok (lines.Get table row column)
meaning word other = Err UnknownEvent

-- the line of a script that a line with this first word and this rest is like: that of transaction 0
abbrev pub event_line : Word → List ℕ → List ℕ
event_line word rest = event_name word ++ codes " 0" ++ rest

-- what such a line says: what the event of that line says, or why it is none
abbrev pub ReadsLike : Setup → List ℕ → Word → Result JobLine Reason → Type 0
ReadsLike setup rest word read =
    ((event : Event) × IsEventLine setup (event_line word rest) event × (read ≡ meaning word event))
    ⊎ ((reason : Reason) × IsEventFault setup (event_line word rest) reason × (read ≡ Err reason))

-- what a line of one word says in the dialect of live jobs alone
abbrev pub live_line : Dialect → List ℕ → Result JobLine Reason
live_line Live line = if bytes_eq line (codes "base") then Ok lines.Base else Err UnknownEvent
live_line Jobs line = Err UnknownEvent

-- what any other line says
abbrev pub without_event : Dialect → List ℕ → Result JobLine Reason
without_event dialect line = if bytes_eq line (codes "end") then Ok lines.End else live_line dialect line

abbrev pub ReadsBy : Setup → Dialect → List ℕ → Option Word → Result JobLine Reason → Type 0
ReadsBy setup dialect line None read = read ≡ without_event dialect line
ReadsBy setup dialect line (Some word) read = ReadsLike setup (drop (length (first_word line)) line) word read

-- what a line that is not skipped says, and one that is
abbrev pub ReadsIf : Bool → Setup → Dialect → List ℕ → Result JobLine Reason → Type 0
ReadsIf true setup dialect line read = ReadsBy setup dialect line (word_of dialect (first_word line)) read
ReadsIf false setup dialect line read = read ≡ Ok lines.Nothing

-- what a line of jobs says in a dialect, on the tables and workers of a setup, or why it is none
abbrev pub Reads : Setup → Dialect → List ℕ → Result JobLine Reason → Type 0
Reads setup dialect line read = ReadsIf (is_kept line) setup dialect line read

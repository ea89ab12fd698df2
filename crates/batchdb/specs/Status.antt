-- The exit status of the program, and what it means.
use Rattle.std.specs.Prelude.{ℕ, ◌<◌, List, ◌++◌, length, Option, codes}
use Rattle.std.specs.Io.KnownBytes.{Appends, Keeps}
use Rattle.world.specs.declared.faults.RunFault.{RunFault}
use Rattle.world.specs.declared.faults.RunFault.TheVariants.{Script}
use Rattle.world.specs.declared.script_running.Echo.{Echo}
use Rattle.world.specs.Scripts.{WasRead, IsPrinted, fault_text}
use Rattle.batchdb.specs.declared.words.Asked.{Asked}
use Rattle.batchdb.specs.declared.words.Asked.TheVariants.{Simulator, Help, Version, Node, Longer, Other}

-- of a script that was not run to its end: 2 if it does not read, else 1
abbrev pub fault_status : RunFault → ℕ
fault_status (Script line reason) = 2
fault_status other = 1

-- the line of such a fault: the program's name stands before all but a script's own line
abbrev pub fault_line : RunFault → List ℕ
fault_line (Script line reason) = fault_text (Script line reason)
fault_line other = codes "batchdb: " ++ fault_text other

-- the reader's bytes were run as a script, and all of the text that it prints was written
abbrev pub HasRun : Echo → Option (List ℕ) → Option (List ℕ) → Option (List ℕ) → Option (List ℕ) → Type 0
HasRun echo read_old read_new written_old written_new =
    (script text : List ℕ) × WasRead read_old read_new script × IsPrinted echo script text
    × Appends written_old written_new text

-- nothing was read, and a text that is not empty was written: the help, or the version
abbrev pub HasTold : Option (List ℕ) → Option (List ℕ) → Option (List ℕ) → Option (List ℕ) → Type 0
HasTold read_old read_new written_old written_new =
    Keeps read_old read_new × ((text : List ℕ) × (0 < length text) × Appends written_old written_new text)

-- what status 0 says, by what was asked for: of words that ask for nothing the program knows it is never the status, and of a node it
-- says nothing
abbrev pub HasAnswered : Asked → Option (List ℕ) → Option (List ℕ) → Option (List ℕ) → Option (List ℕ) → Type 0
HasAnswered (Simulator echo) read_old read_new written_old written_new = HasRun echo read_old read_new written_old written_new
HasAnswered Help read_old read_new written_old written_new = HasTold read_old read_new written_old written_new
HasAnswered Version read_old read_new written_old written_new = HasTold read_old read_new written_old written_new
HasAnswered Node read_old read_new written_old written_new = Unit {0}
HasAnswered Longer read_old read_new written_old written_new = HasTold read_old read_new written_old written_new
HasAnswered Other read_old read_new written_old written_new = ⊥

-- what status 2 says: nothing was written, but by a node, which may have answered what came before
abbrev pub IsUnwritten : Asked → Option (List ℕ) → Option (List ℕ) → Type 0
IsUnwritten Node written_old written_new = Unit {0}
IsUnwritten (Simulator echo) written_old written_new = Keeps written_old written_new
IsUnwritten Help written_old written_new = Keeps written_old written_new
IsUnwritten Version written_old written_new = Keeps written_old written_new
IsUnwritten Longer written_old written_new = Keeps written_old written_new
IsUnwritten Other written_old written_new = Keeps written_old written_new

-- the greatest status, by what was asked for: 2 is of words or a script that do not read, 3 of a node's turns that are used up
abbrev pub status_max : Asked → ℕ
status_max (Simulator echo) = 2
status_max Help = 1
status_max Version = 1
status_max Node = 3
status_max Longer = 2
status_max Other = 2

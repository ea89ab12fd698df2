-- The line of an event, as a script has it.
use Rattle.std.specs.Prelude.{ℕ, List, [], ◌∷◌, ◌++◌, map, codes, decimal}
use Rattle.rows.specs.declared.kind.Kind.{Kind}
use Rattle.rows.specs.Text.{hex_text, value_text, words_text}
use Rattle.script.specs.PlanText.{plan_words, plan_tables}
use Rattle.script.specs.Tables.{name_in}
use Rattle.script.specs.declared.event.Event.{Event}
use Rattle.script.specs.declared.event.Event.TheVariants.{Begin, Insert, Set, Delete, Get, Commit, Abort, Flush, Push, Deliver, Show, Open}
use Rattle.script.specs.declared.event.Event.TheVariants.{Ask, Renew, Run, Stop, Start, Version, Dump, Restart, Raw, AddColumn, Base}
use Rattle.script.specs.declared.event.Node.{Node}
use Rattle.script.specs.declared.event.Node.TheVariants as nodes
use Rattle.script.specs.declared.output.Output.{Output}
use Rattle.script.specs.OutputText.{output_text}

-- a node: `p`, or `r` and a replica's number
abbrev pub node_text : Node → List ℕ
node_text nodes.Primary = codes "p"
node_text (nodes.Replica number) = codes "r" ++ decimal number

-- bytes by themselves: two digits of hexadecimal each; `-` if there are none
abbrev pub bytes_text : List ℕ → List ℕ
bytes_text [] = codes "-"
bytes_text (byte ∷ bytes) = hex_text (byte ∷ bytes)

-- the words of an event, whose tables have these names
abbrev pub event_words : (ℕ → List ℕ) → Event → List (List ℕ)
event_words naming Begin = codes "begin" ∷ []
event_words naming (Insert transaction table row values) =
    codes "insert" ∷ decimal transaction ∷ naming table ∷ decimal row.0 ∷ map value_text values
event_words naming (Set transaction table row column value) =
    codes "set" ∷ decimal transaction ∷ naming table ∷ decimal row.0 ∷ decimal column ∷ value_text value ∷ []
event_words naming (Delete transaction table row) = codes "delete" ∷ decimal transaction ∷ naming table ∷ decimal row.0 ∷ []
event_words naming (AddColumn transaction table default) =
    codes "column" ∷ decimal transaction ∷ naming table ∷ value_text default ∷ []
event_words naming (Get transaction table row column) =
    codes "get" ∷ decimal transaction ∷ naming table ∷ decimal row.0 ∷ decimal column ∷ []
event_words naming (Commit transaction worker) = codes "commit" ∷ decimal transaction ∷ decimal worker ∷ []
event_words naming (Abort transaction) = codes "abort" ∷ decimal transaction ∷ []
event_words naming (Flush count) = codes "flush" ∷ decimal count ∷ []
event_words naming Base = codes "base" ∷ []
event_words naming (Stop bytes) = codes "stop" ∷ decimal bytes ∷ []
event_words naming Start = codes "start" ∷ []
event_words naming (Push worker seq) = codes "push" ∷ decimal worker ∷ decimal seq ∷ []
event_words naming (Deliver index node) = codes "deliver" ∷ decimal index ∷ node_text node ∷ []
event_words naming (Show index) = codes "show" ∷ decimal index ∷ []
event_words naming (Open replica plan) = codes "open" ∷ decimal replica ∷ plan_words naming plan
event_words naming (Ask replica) = codes "ask" ∷ decimal replica ∷ []
event_words naming (Renew replica) = codes "renew" ∷ decimal replica ∷ []
event_words naming (Run replica) = codes "run" ∷ decimal replica ∷ []
event_words naming (Version replica) = codes "version" ∷ decimal replica ∷ []
event_words naming (Dump replica) = codes "dump" ∷ decimal replica ∷ []
event_words naming (Restart replica boot) = codes "restart" ∷ decimal replica ∷ decimal boot ∷ []
event_words naming (Raw node bytes) = codes "raw" ∷ node_text node ∷ bytes_text bytes ∷ []

-- the tables that an event names
abbrev pub tables_in : Event → List ℕ
tables_in (Insert transaction table row values) = table ∷ []
tables_in (Set transaction table row column value) = table ∷ []
tables_in (Delete transaction table row) = table ∷ []
tables_in (AddColumn transaction table default) = table ∷ []
tables_in (Get transaction table row column) = table ∷ []
tables_in (Open replica plan) = plan_tables plan
tables_in other = []

-- the line of an event, without its end. Tables have their names in the schema
abbrev pub event_text : List (List ℕ × List Kind) → Event → List ℕ
event_text schema event = words_text (event_words (name_in schema) event)

-- an event after `> `, and the lines of its output
abbrev pub echoed_one : List (List ℕ × List Kind) → Event → Output → List ℕ
echoed_one schema event output = codes "> " ++ event_text schema event ++ 10 ∷ [] ++ output_text output

-- the text of events and their outputs
abbrev pub echoed_text : List (List ℕ × List Kind) → List Event → List Output → List ℕ
echoed_text schema (event ∷ events) (output ∷ outputs) = echoed_one schema event output ++ echoed_text schema events outputs
echoed_text schema events outputs = []

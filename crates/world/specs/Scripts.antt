-- What a run of a script reads and prints.
use Rattle.std.specs.Prelude.{◌≡◌, ℕ, List, ◌++◌, Option, codes, decimal}
use Rattle.std.specs.Io.KnownBytes.{Consumes, IsAtEnd}
use Rattle.script.specs.declared.event.Event.{Event}
use Rattle.script.specs.declared.output.Output.{Output}
use Rattle.script.specs.declared.setup.Setup.{Setup}
use Rattle.script.specs.EventText.{echoed_text}
use Rattle.script.specs.Faults.{reason_text}
use Rattle.script.specs.OutputText.{outputs_text}
use Rattle.script.specs.Scripts.{IsScript}
use Rattle.world.specs.declared.faults.RunFault.{RunFault}
use Rattle.world.specs.declared.faults.RunFault.TheVariants as faults
use Rattle.world.specs.declared.script_running.Echo.{Echo}
use Rattle.world.specs.declared.script_running.Echo.TheVariants as echoes
use Rattle.world.specs.Cores.{new_opening}
use Rattle.world.specs.Theorem.{KeepsPromises}

-- a reader gave these bytes, and has no more: if it is known what it had, they are all of that
abbrev pub WasRead : Option (List ℕ) → Option (List ℕ) → List ℕ → Type 0
WasRead old new bytes = Consumes old new bytes × IsAtEnd new

-- the text of a run: the lines of its outputs, and if events are shown the line of each before those of its output
abbrev pub run_text : Echo → Setup → List Event → List Output → List ℕ
run_text echoes.No setup events outputs = outputs_text outputs
run_text echoes.Events setup events outputs = echoed_text setup.schema events outputs

-- a text that a script may print: that of a run of its events, whose outputs keep all promises
pub record IsPrinted (echo : Echo) (script : List ℕ) (text : List ℕ) : Type 0 where
  pub setup : Setup
  pub events : List Event
  pub outputs : List Output
  pub read : IsScript script setup events
  pub kept : KeepsPromises (new_opening setup) events outputs
  pub text_is : text ≡ run_text echo setup events outputs

-- the words for a fault: of a script that does not read, its line and the reason
abbrev pub fault_text : RunFault → List ℕ
fault_text faults.Read = codes "the script could not be read"
fault_text (faults.Script line reason) = codes "line " ++ decimal line ++ codes ": " ++ reason_text reason
fault_text faults.Write = codes "the output could not be written"
fault_text faults.Memory = codes "out of memory"

-- What holds of the text of scripts, events and values, whoever reads it.
use Rattle.std.specs.Prelude.{◌≡◌, ℕ, ◌<◌, ◌^◌, List}
use Rattle.rows.specs.declared.value.Value.{Value}
use Rattle.rows.specs.Text.{value_text}
use Rattle.script.specs.declared.event.Event.{Event}
use Rattle.script.specs.declared.faults.Reason.{Reason}
use Rattle.script.specs.declared.faults.ScriptFault.TheVariants.{At}
use Rattle.script.specs.declared.setup.Setup.{Setup}
use Rattle.script.specs.EventLines.{IsEventLine}
use Rattle.script.specs.Scripts.{IsScript, IsScriptFault, IsSettingsText, IsSettingsFault}
use Rattle.script.specs.Values.{HasWord}

-- a text is that of one script alone: it says which settings there are, and which events in which order
abbrev pub TextsDetermineScripts : Type 0
TextsDetermineScripts =
    (text : List ℕ) (one other : Setup) (events others : List Event) → IsScript text one events → IsScript text other others
    → (one ≡ other) × (events ≡ others)

-- no text is both a script and faulty
abbrev pub ScriptsHaveNoFault : Type 0
ScriptsHaveNoFault =
    (text : List ℕ) (setup : Setup) (events : List Event) (line : ℕ) (reason : Reason) → IsScript text setup events
    → ¬ IsScriptFault text (At line reason)

-- a text has at most one fault, on one line
abbrev pub TextsHaveOneFault : Type 0
TextsHaveOneFault =
    (text : List ℕ) (line other : ℕ) (reason why : Reason) → IsScriptFault text (At line reason) → IsScriptFault text (At other why)
    → (line ≡ other) × (reason ≡ why)

-- the same of texts that have settings alone
abbrev pub SettingsHaveNoFault : Type 0
SettingsHaveNoFault =
    (text : List ℕ) (setup : Setup) (line : ℕ) (reason : Reason) → IsSettingsText text setup → ¬ IsSettingsFault text (At line reason)

abbrev pub SettingsHaveOneFault : Type 0
SettingsHaveOneFault =
    (text : List ℕ) (line other : ℕ) (reason why : Reason) → IsSettingsFault text (At line reason) → IsSettingsFault text (At other why)
    → (line ≡ other) × (reason ≡ why)

-- a line is that of one event alone, however many workers and replicas there are below 2 ^ 64
abbrev pub LinesDetermineEvents : Type 0
LinesDetermineEvents =
    (setup : Setup) (line : List ℕ) (one other : Event) → setup.workers < 2 ^ 64 → setup.replicas < 2 ^ 64
    → IsEventLine setup line one → IsEventLine setup line other → one ≡ other

-- a word is that of one value alone
abbrev pub WordsDetermineValues : Type 0
WordsDetermineValues = (one other : Value) → HasWord one → HasWord other → value_text one ≡ value_text other → one ≡ other

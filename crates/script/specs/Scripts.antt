-- Which texts are scripts, of which settings and events, and why a text is none: its first line that cannot stand there.
use Rattle.std.specs.Prelude.{◌≡◌, ℕ, ◌-◌, ◌<◌, ◌≤◌, ◌+◌, List, [], ◌∷◌, ◌++◌, length, map, take, Bool, true, false, not, ◌==◌}
use Rattle.std.specs.Prelude.{Option, None, Some, slice_get}
use Rattle.std.specs.List.{slice_split, filter, list_all, AllByRecursion}
use Rattle.script.specs.declared.event.Event.{Event}
use Rattle.script.specs.declared.faults.Reason.{Reason}
use Rattle.script.specs.declared.faults.Reason.TheVariants.{NotText, BadSetting}
use Rattle.script.specs.declared.faults.ScriptFault.{ScriptFault}
use Rattle.script.specs.declared.faults.ScriptFault.TheVariants.{At, Memory}
use Rattle.script.specs.declared.setup.Setup.{Setup}
use Rattle.script.specs.declared.settings.Settings.{Settings}
use Rattle.script.specs.declared.settings.Settings.TheVariants.{Ready}
use Rattle.script.specs.Text.{is_text}
use Rattle.script.specs.EventText.{event_text}
use Rattle.script.specs.EventLines.{IsEventLine, IsEventFault, begins_with, setting_names}
use Rattle.script.specs.Settings.{AreSettings, settings_lines, is_ready, IsNoSetting}

-- the lines of a text: what stands before each 0a, and what stands after the last one, if anything does
abbrev pub without_empty_end : List (List ℕ) → List (List ℕ)
without_empty_end [] = []
without_empty_end ([] ∷ []) = []
without_empty_end (line ∷ lines) = line ∷ without_empty_end lines

abbrev pub lines_of : List ℕ → List (List ℕ)
lines_of text = without_empty_end (slice_split (λ byte. byte == 10) text)

-- whether a line is not skipped: it is not empty, and does not begin with `#`
abbrev pub is_kept : List ℕ → Bool
is_kept [] = false
is_kept (first ∷ rest) = not (first == 35)

-- events that can stand after settings: none before a table is set
abbrev pub AreEvents : Settings → List Event → Type 0
AreEvents (Ready setup) events = AllByRecursion (λ event. IsEventLine setup (event_text setup.schema event) event) events
AreEvents other events = events ≡ []

-- the lines of events, each on the tables of the settings
abbrev pub events_lines : Settings → List Event → List (List ℕ)
events_lines (Ready setup) events = map (event_text setup.schema) events
events_lines other events = []

-- what the first lines of a script read as: all of them are text, and those that are not skipped are these settings and these
-- events
pub record LinesReadAs (lines : List (List ℕ)) (settings : Settings) (events : List Event) : Type 0 where
  pub all_text : list_all is_text lines ≡ true
  pub good_settings : AreSettings settings
  pub good_events : AreEvents settings events
  pub kept : filter is_kept lines ≡ settings_lines settings ++ events_lines settings events

-- a text is a script with this setup and these events
abbrev pub IsScript : List ℕ → Setup → List Event → Type 0
IsScript text setup events = LinesReadAs (lines_of text) (Ready setup) events

-- why a line of text that is not skipped cannot stand after these settings and events
abbrev pub IsFaultBehind : Settings → List Event → List ℕ → Reason → Type 0
IsFaultBehind (Ready setup) [] line BadSetting = (begins_with setting_names line ≡ true) × IsNoSetting (Ready setup) line
IsFaultBehind (Ready setup) events line reason = IsEventFault setup line reason
IsFaultBehind settings events line BadSetting = IsNoSetting settings line
IsFaultBehind settings events line reason = ⊥

-- why a line cannot stand there; what is not text comes first, also in lines that would be skipped
abbrev pub IsLineFault : Settings → List Event → List ℕ → Reason → Type 0
IsLineFault settings events line NotText = is_text line ≡ false
IsLineFault settings events line reason =
    (is_text line ≡ true) × (is_kept line ≡ true) × IsFaultBehind settings events line reason

-- why a script cannot go on with what comes next: a line, or the end, before which a table has to be set
abbrev pub IsFaultNext : Settings → List Event → Option (List ℕ) → Reason → Type 0
IsFaultNext settings events (Some line) reason = IsLineFault settings events line reason
IsFaultNext settings events None reason = (is_ready settings ≡ false) × (reason ≡ BadSetting)

-- why a text that has settings alone cannot go on with what comes next: a further line is no setting. No events stand before it
abbrev pub IsSettingsFaultNext : Settings → List Event → Option (List ℕ) → Reason → Type 0
IsSettingsFaultNext settings (event ∷ events) next reason = ⊥
IsSettingsFaultNext settings [] (Some line) NotText = is_text line ≡ false
IsSettingsFaultNext settings [] (Some line) BadSetting =
    (is_text line ≡ true) × (is_kept line ≡ true) × IsNoSetting settings line
IsSettingsFaultNext settings [] (Some line) reason = ⊥
IsSettingsFaultNext settings [] None reason = (is_ready settings ≡ false) × (reason ≡ BadSetting)

-- the lines before this one, counted from 1, begin a script, and this line, or the end after the last line, has this fault
pub record IsFaultAt (IsNextFault : Settings → List Event → Option (List ℕ) → Reason → Type 0) (text : List ℕ) (line : ℕ)
    (reason : Reason) : Type 0 where
  pub settings : Settings
  pub events : List Event
  pub counted : 0 < line
  pub within : line ≤ length (lines_of text) + 1
  pub before : LinesReadAs (take (line - 1) (lines_of text)) settings events
  pub here : IsNextFault settings events (slice_get (lines_of text) (line - 1)) reason

-- why a text is no script; being out of memory says nothing of it
abbrev pub IsScriptFault : List ℕ → ScriptFault → Type 0
IsScriptFault text (At line reason) = IsFaultAt IsFaultNext text line reason
IsScriptFault text Memory = Unit {0}

-- a text has this setup and nothing else
abbrev pub IsSettingsText : List ℕ → Setup → Type 0
IsSettingsText text setup = IsScript text setup []

-- why a text is no setup alone
abbrev pub IsSettingsFault : List ℕ → ScriptFault → Type 0
IsSettingsFault text (At line reason) = IsFaultAt IsSettingsFaultNext text line reason
IsSettingsFault text Memory = Unit {0}

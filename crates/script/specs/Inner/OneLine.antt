-- What one line more makes of what was read before it.
use Rattle.std.specs.Prelude.{◌≡◌, ℕ, List, [], ◌∷◌, ◌++◌, true, Some}
use Rattle.std.specs.List.{filter}
use Rattle.script.specs.declared.event.Event.{Event}
use Rattle.script.specs.declared.settings.Settings.{Settings}
use Rattle.script.specs.Text.{is_text}
use Rattle.script.specs.Settings.{AreSettings, settings_lines}
use Rattle.script.specs.declared.faults.Reason.{Reason}
use Rattle.script.specs.Scripts.{AreEvents, events_lines, is_kept, IsSettingsFaultNext}

-- behind these settings and events a line stands, and makes others of them, or leaves them where it is skipped
pub record IsLineRead (settings : Settings) (events : List Event) (line : List ℕ) (next : Settings) (more : List Event) : Type 0 where
  pub text : is_text line ≡ true
  pub good_settings : AreSettings next
  pub good_events : AreEvents next more
  pub kept : settings_lines next ++ events_lines next more
      ≡ (settings_lines settings ++ events_lines settings events) ++ filter is_kept (line ∷ [])

-- why a line of a schema file cannot stand behind these settings
abbrev pub IsSettingsLineFault : Settings → List ℕ → Reason → Type 0
IsSettingsLineFault settings line reason = IsSettingsFaultNext settings [] (Some line) reason

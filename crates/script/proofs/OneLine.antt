-- A line more behind settings and events: an event, or a setting.
use Rattle.std.proofs.Common.{◌≡◌, ℕ, true, false, List, [], ◌∷◌, ◌++◌, map, refl, sym, ap, ◌∙◌, subst, append_assoc, append-nil}
use Rattle.std.proofs.Common.{length, arith, Result, Ok, Err, MatchResult}
use Rattle.std.specs.List.{AllByRecursion, filter}
use Rattle.std.proofs.lemmas.List.{map-append}
use Rattle.script.specs.declared.event.Event.{Event}
use Rattle.script.specs.declared.faults.LineFault.{LineFault}
use Rattle.script.specs.declared.faults.LineFault.TheVariants.{Because, Memory}
use Rattle.script.specs.declared.faults.Reason.TheVariants.{NotText, BadSetting, UnknownEvent, BadWords, NoTable}
use Rattle.script.specs.declared.settings.Settings.{Settings}
use Rattle.script.specs.declared.settings.Settings.TheVariants.{Nothing, Workers, Replicas, Ready}
use Rattle.script.specs.declared.setup.Setup.{Setup}
use Rattle.script.specs.Text.{is_text}
use Rattle.script.specs.EventText.{event_text}
use Rattle.script.specs.EventLines.{IsEventLine, IsEventFault, begins_with, setting_names}
use Rattle.script.specs.Settings.{IsNextSetting, IsSetup, is_ready, settings_lines, setup_lines}
use Rattle.script.specs.Scripts.{AreEvents, IsLineFault, events_lines, is_kept}
use Rattle.script.specs.Inner.LineFaults.{OrMemory}
use Rattle.script.specs.Inner.OneLine.{IsLineRead}
use Rattle.script.specs.Inner.SettingWords.{IsSettingFault}

kept-line : (line : List ℕ) → is_kept line ≡ true → filter is_kept (line ∷ []) ≡ line ∷ []
kept-line line kept = rw kept refl

events-more : (setup : Setup) (events : List Event) (event : Event)
    → AllByRecursion (λ event. IsEventLine setup (event_text setup.schema event) event) events
    → IsEventLine setup (event_text setup.schema event) event
    → AllByRecursion (λ event. IsEventLine setup (event_text setup.schema event) event) (events ++ event ∷ [])
events-more setup [] event good is = (is, tt)
events-more setup (first ∷ events) event good is = (good.0, events-more setup events event good.1 is)

-- an event stands behind those before it
pub event-read : (setup : Setup) (line : List ℕ) (events more : List Event) (event : Event) → is_text line ≡ true → is_kept line ≡ true
    → IsSetup setup → AreEvents (Ready setup) events → IsEventLine setup line event → more ≡ events ++ event ∷ []
    → IsLineRead (Ready setup) events line (Ready setup) more
event-read setup line events more event text kept is good one behind =
    let lines = setup_lines setup in
    let before = map (event_text setup.schema) events in
    let P : List ℕ → Type 0 = λ written. IsEventLine setup written event in
    let own : IsEventLine setup (event_text setup.schema event) event = subst P (sym one.text) one in
    let after : map (event_text setup.schema) (events ++ event ∷ []) ≡ before ++ line ∷ [] =
    map-append (event_text setup.schema) events (event ∷ []) ∙ ap (λ (last : List ℕ). before ++ last ∷ []) one.text in
    record {
      text = text;
      good_settings = is;
      good_events = rw behind (events-more setup events event good own);
      kept =
          ap (λ (all : List Event). lines ++ map (event_text setup.schema) all) behind
          ∙ ap (λ (all : List (List ℕ)). lines ++ all) after
          ∙ sym (append_assoc lines before (line ∷ []))
          ∙ ap (λ (all : List (List ℕ)). (lines ++ before) ++ all) (sym (kept-line line kept));
    }

-- a line that is no event has its fault there, unless it may be a setting
pub event-not : (setup : Setup) (line : List ℕ) (events : List Event) (fault : LineFault) → is_text line ≡ true → is_kept line ≡ true
    → (events ≡ [] → begins_with setting_names line ≡ false) → OrMemory (IsEventFault setup line) fault
    → OrMemory (IsLineFault (Ready setup) events line) fault
event-not setup line events Memory text kept other bad = tt
event-not setup line events (Because NotText) text kept other bad = absurd bad
event-not setup line [] (Because BadSetting) text kept other bad = let none = other refl in absurd (let no : ⊥ = cc in no)
event-not setup line (event ∷ events) (Because BadSetting) text kept other bad = (text, kept, bad)
event-not setup line [] (Because UnknownEvent) text kept other bad = (text, kept, bad)
event-not setup line (event ∷ events) (Because UnknownEvent) text kept other bad = (text, kept, bad)
event-not setup line [] (Because BadWords) text kept other bad = (text, kept, bad)
event-not setup line (event ∷ events) (Because BadWords) text kept other bad = (text, kept, bad)
event-not setup line [] (Because NoTable) text kept other bad = (text, kept, bad)
event-not setup line (event ∷ events) (Because NoTable) text kept other bad = (text, kept, bad)

none-yet : (settings : Settings) → AreEvents settings []
none-yet Nothing = refl
none-yet (Workers workers) = refl
none-yet (Replicas workers replicas) = refl
none-yet (Ready setup) = tt

no-lines : (settings : Settings) → events_lines settings [] ≡ []
no-lines Nothing = refl
no-lines (Workers workers) = refl
no-lines (Replicas workers replicas) = refl
no-lines (Ready setup) = refl

-- a setting stands behind those before it, where no event is
pub setting-read : (settings next : Settings) (line : List ℕ) (events : List Event) → is_text line ≡ true → is_kept line ≡ true
    → events ≡ [] → IsNextSetting settings line next → IsLineRead settings events line next events
setting-read settings next line events text kept none is =
    let P : List Event → Type 0 = λ all. IsLineRead settings all line next all in
    subst P (sym none) (record {
      text = text;
      good_settings = is.0;
      good_events = none-yet next;
      kept =
          ap (λ (rest : List (List ℕ)). settings_lines next ++ rest) (no-lines next) ∙ append-nil (settings_lines next) ∙ is.1
          ∙ ap (λ (front : List (List ℕ)). front ++ line ∷ []) (sym (append-nil (settings_lines settings)))
          ∙ ap (λ (rest : List (List ℕ)). (settings_lines settings ++ rest) ++ line ∷ []) (sym (no-lines settings))
          ∙ ap (λ (rest : List (List ℕ)). (settings_lines settings ++ events_lines settings []) ++ rest) (sym (kept-line line kept));
    })

-- before a table is set there are no events
pub none-before : (settings : Settings) (events : List Event) → is_ready settings ≡ false → AreEvents settings events → events ≡ []
none-before Nothing events before good = good
none-before (Workers workers) events before good = good
none-before (Replicas workers replicas) events before good = good
none-before (Ready setup) events before good = absurd (let no : ⊥ = cc in no)

-- a line that is no setting has its fault there
pub setting-not : (settings : Settings) (line : List ℕ) (events : List Event) (fault : LineFault) → is_text line ≡ true
    → is_kept line ≡ true → events ≡ [] → (is_ready settings ≡ true → begins_with setting_names line ≡ true)
    → OrMemory (IsSettingFault settings line) fault → OrMemory (IsLineFault settings events line) fault
setting-not settings line events Memory text kept none begins bad = tt
setting-not settings line events (Because NotText) text kept none begins bad = let is = bad.0 in absurd (let no : ⊥ = cc in no)
setting-not settings line events (Because UnknownEvent) text kept none begins bad = let is = bad.0 in absurd (let no : ⊥ = cc in no)
setting-not settings line events (Because BadWords) text kept none begins bad = let is = bad.0 in absurd (let no : ⊥ = cc in no)
setting-not settings line events (Because NoTable) text kept none begins bad = let is = bad.0 in absurd (let no : ⊥ = cc in no)
setting-not Nothing line events (Because BadSetting) text kept none begins bad = (text, kept, bad.1)
setting-not (Workers workers) line events (Because BadSetting) text kept none begins bad = (text, kept, bad.1)
setting-not (Replicas workers replicas) line events (Because BadSetting) text kept none begins bad = (text, kept, bad.1)
setting-not (Ready setup) line events (Because BadSetting) text kept none begins bad =
    let P : List Event → Type 0 = λ all. IsLineFault (Ready setup) all line BadSetting in
    subst P (sym none) (text, kept, (begins refl, bad.1))

-- what is read of a line as a setting is read of it behind the settings
pub setting-line : (settings : Settings) (line : List ℕ) (events : List Event) (result : Result Settings LineFault) → is_text line ≡ true
    → is_kept line ≡ true → events ≡ [] → (is_ready settings ≡ true → begins_with setting_names line ≡ true)
    → MatchResult result (IsNextSetting settings line) (OrMemory (IsSettingFault settings line))
    → MatchResult result (λ next. IsLineRead settings events line next events) (OrMemory (IsLineFault settings events line))
setting-line settings line events (Ok next) text kept none begins read = setting-read settings next line events text kept none read
setting-line settings line events (Err fault) text kept none begins read = setting-not settings line events fault text kept none begins read

pub no-events : (events : List Event) → length events ≡ 0 → events ≡ []
no-events [] none = refl
no-events (event ∷ events) none = absurd (omega arith)

pub not-ready : (settings : Settings) → ((setup : Setup) → settings ≡ Ready setup → ⊥) → is_ready settings ≡ false
not-ready Nothing other = refl
not-ready (Workers workers) other = refl
not-ready (Replicas workers replicas) other = refl
not-ready (Ready setup) other = absurd (other setup refl)

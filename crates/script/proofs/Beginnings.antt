-- The lines that begin a script, one more at a time.
use Rattle.std.proofs.Common.{◌<◌, ◌+◌, ◌-◌, ◌≡◌, ℕ, zero, suc, ◌≤◌, ◌==◌, true, List, [], ◌∷◌, ◌++◌, length, take, drop, slice_get}
use Rattle.std.proofs.Common.{Option, None, Some, refl, sym, ap, ◌∙◌, arith}
use Rattle.std.specs.List.{filter, list_all, AllByRecursion}
use Rattle.std.proofs.lemmas.Bool.{and_parts}
use Rattle.std.proofs.lemmas.Bool.Decides.{nat_tests}
use Rattle.std.proofs.lemmas.List.{take_all}
use Rattle.std.proofs.lemmas.List.Elements.{filter-append}
use Rattle.std.proofs.lemmas.Option.{slice_get_past}
use Rattle.script.specs.declared.event.Event.{Event}
use Rattle.script.specs.declared.faults.Reason.{Reason}
use Rattle.script.specs.declared.faults.Reason.TheVariants.{BadSetting}
use Rattle.script.specs.declared.settings.Settings.{Settings}
use Rattle.script.specs.Text.{is_text}
use Rattle.rows.specs.Limits.{workers_max, replicas_max}
use Rattle.script.specs.declared.setup.Setup.{Setup}
use Rattle.script.specs.EventText.{event_text}
use Rattle.script.specs.EventLines.{IsEventLine}
use Rattle.script.specs.Events.{IsPossible}
use Rattle.script.specs.Settings.{IsSetup}
use Rattle.script.specs.Scripts.{LinesReadAs, IsFaultAt, IsScript, lines_of, is_kept}
use Rattle.script.specs.Inner.OneLine.{IsLineRead}

-- a list whose rest begins with a line has it there
pub record IsAt (lines : List (List ℕ)) (count : ℕ) (line : List ℕ) (rest : List (List ℕ)) : Type 0 where
  pub within : count < length lines
  pub here : slice_get lines count ≡ Some line
  pub before : take (count + 1) lines ≡ take count lines ++ line ∷ []
  pub behind : drop (count + 1) lines ≡ rest

pub is-at : (lines : List (List ℕ)) (count : ℕ) (line : List ℕ) (rest : List (List ℕ)) → drop count lines ≡ line ∷ rest
    → IsAt lines count line rest
is-at [] zero line rest is = absurd (let no : ⊥ = cc in no)
is-at [] (suc count) line rest is = absurd (let no : ⊥ = cc in no)
is-at (one ∷ lines) zero line rest is =
    let first : one ≡ line = cc in
    let others : lines ≡ rest = cc in
    record { within = omega arith; here = ap Some first; before = ap (λ (x : List ℕ). x ∷ []) first; behind = others }
is-at (one ∷ lines) (suc count) line rest is =
    let at = is-at lines count line rest is in
    let next : suc count + 1 ≡ suc (count + 1) = omega arith in
    record {
      within = omega (arith, at.within);
      here = at.here;
      before = rw next (ap (λ (x : List (List ℕ)). one ∷ x) at.before);
      behind = rw next at.behind;
    }

all-more : (lines : List (List ℕ)) (line : List ℕ) → list_all is_text lines ≡ true → is_text line ≡ true
    → list_all is_text (lines ++ line ∷ []) ≡ true
all-more [] line all one = rw one refl
all-more (first ∷ lines) line all one =
    let both = and_parts (is_text first) (list_all is_text lines) all in
    rw (both.0, all-more lines line both.1 one) refl

-- lines that begin a script, and one more that was read behind them
pub beginning-more : (lines : List (List ℕ)) (line : List ℕ) (settings next : Settings) (events more : List Event)
    → LinesReadAs lines settings events → IsLineRead settings events line next more → LinesReadAs (lines ++ line ∷ []) next more
beginning-more lines line settings next events more before read =
    record {
      all_text = all-more lines line before.all_text read.text;
      good_settings = read.good_settings;
      good_events = read.good_events;
      kept =
          filter-append is_kept lines (line ∷ [])
          ∙ ap (λ (kept : List (List ℕ)). kept ++ filter is_kept (line ∷ [])) before.kept
          ∙ sym read.kept;
    }

-- a fault of the line behind those that were read
pub fault-at : (IsNextFault : Settings → List Event → Option (List ℕ) → Reason → Type 0) (text : List ℕ) (count : ℕ) (line : List ℕ)
    (rest : List (List ℕ)) (settings : Settings) (events : List Event) (reason : Reason) → drop count (lines_of text) ≡ line ∷ rest
    → LinesReadAs (take count (lines_of text)) settings events → IsNextFault settings events (Some line) reason
    → IsFaultAt IsNextFault text (count + 1) reason
fault-at IsNextFault text count line rest settings events reason is before fault =
    let at = is-at (lines_of text) count line rest is in
    let back : count + 1 - 1 ≡ count = omega arith in
    record {
      settings = settings;
      events = events;
      counted = omega arith;
      within = omega (arith, at.within);
      before = rw back before;
      here = rw (back, at.here) fault;
    }

-- what is missing at the end
pub fault-at-end : (IsNextFault : Settings → List Event → Option (List ℕ) → Reason → Type 0) (text : List ℕ) (count : ℕ)
    (settings : Settings) (events : List Event) → length (lines_of text) ≡ count
    → LinesReadAs (take count (lines_of text)) settings events → IsNextFault settings events None BadSetting
    → IsFaultAt IsNextFault text (count + 1) BadSetting
fault-at-end IsNextFault text count settings events all before fault =
    let back : count + 1 - 1 ≡ count = omega arith in
    record {
      settings = settings;
      events = events;
      counted = omega arith;
      within = omega (arith, all);
      before = rw back before;
      here = rw (back, slice_get_past (lines_of text) count (omega (arith, all))) fault;
    }

-- where nothing is left, all lines were read
pub all-read : (text : List ℕ) (count : ℕ) (settings : Settings) (events : List Event) → length (lines_of text) ≡ count
    → LinesReadAs (take count (lines_of text)) settings events → LinesReadAs (lines_of text) settings events
all-read text count settings events all before = rw (take_all count (lines_of text) (omega (arith, all))) at before

pub length-from-drop : (lines : List (List ℕ)) (count : ℕ) → count ≤ length lines → drop count lines ≡ [] → length lines ≡ count
length-from-drop [] zero few none = refl
length-from-drop [] (suc count) few none = absurd (omega arith)
length-from-drop (line ∷ lines) zero few none = absurd (let no : ⊥ = cc in no)
length-from-drop (line ∷ lines) (suc count) few none = ap suc (length-from-drop lines count (omega arith) none)

possible-events : (setup : Setup) (events : List Event)
    → AllByRecursion (λ event. IsEventLine setup (event_text setup.schema event) event) events
    → AllByRecursion (IsPossible setup.workers setup.replicas) events
possible-events setup [] good = tt
possible-events setup (event ∷ events) good = (good.0.possible, possible-events setup events good.1)

-- a script's workers and replicas are few, and its events are possible
pub possible-script : (text : List ℕ) (setup : Setup) (events : List Event) → IsScript text setup events
    → (0 < setup.workers) × (setup.workers ≤ workers_max) × (setup.replicas ≤ replicas_max)
    × AllByRecursion (IsPossible setup.workers setup.replicas) events
possible-script text setup events is =
    let some : IsSetup setup = is.good_settings in
    (some.workers.0, some.workers.1, some.replicas.1, possible-events setup events is.good_events)

-- where no byte is left, no line is
pub end-reached : (text rest : List ℕ) (count : ℕ) → count ≤ length (lines_of text) → drop count (lines_of text) ≡ lines_of rest
    → true ≡ (length rest == 0) → length (lines_of text) ≡ count
end-reached text [] count few behind none = length-from-drop (lines_of text) count few behind
end-reached text (byte ∷ rest) count few behind none = absurd (let wrong : ⊥ = grind (arith, nat_tests) in wrong)

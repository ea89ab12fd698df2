-- A text is a script, or has one fault.
use Rattle.std.proofs.Common.{◌≡◌, ℕ, zero, suc, ◌<◌, ◌≤◌, ◌-◌, Bool, true, false, List, [], ◌∷◌, ◌++◌, length, take, Option, None, Some}
use Rattle.std.proofs.Common.{refl, sym, ap, ◌∙◌, subst, arith, slice_get, inl, inr}
use Rattle.std.specs.List.{filter, list_all}
use Rattle.std.proofs.lemmas.Bool.{and_parts, cases_order}
use Rattle.std.proofs.lemmas.List.{take_all}
use Rattle.std.proofs.lemmas.List.Elements.{filter-append}
use Rattle.std.proofs.lemmas.List.Folds.{list_all-append}
use Rattle.std.proofs.lemmas.Option.{slice_get_within}
use Rattle.script.specs.declared.event.Event.{Event}
use Rattle.script.specs.declared.faults.Reason.{Reason}
use Rattle.script.specs.declared.faults.Reason.TheVariants.{NotText, BadSetting, UnknownEvent, BadWords, NoTable}
use Rattle.script.specs.declared.settings.Settings.{Settings}
use Rattle.script.specs.declared.settings.Settings.TheVariants.{Nothing, Workers, Replicas, Ready}
use Rattle.script.specs.declared.setup.Setup.{Setup}
use Rattle.script.specs.Text.{is_text}
use Rattle.script.specs.EventLines.{IsEventFault}
use Rattle.script.specs.Settings.{AreSettings, IsSetup, is_ready}
use Rattle.script.specs.Scripts.{LinesReadAs, lines_of, is_kept, IsScript, IsFaultAt, IsFaultBehind, IsLineFault}
use Rattle.script.specs.Scripts.{IsFaultNext, IsSettingsFaultNext}
use Rattle.script.specs.Laws.{ScriptsHaveNoFault, TextsHaveOneFault, SettingsHaveNoFault, SettingsHaveOneFault}
use Rattle.script.proofs.EventFaults.{event-begins, setting-begins, line-begins, event-faultless, one-event-fault}
use Rattle.script.proofs.NextLines.{GoesOn, IsSettingNext, IsEventNext, goes-on, begins-once}

-- the lines before a limit fall at a line
parts-before : (lines : List (List ℕ)) (count limit : ℕ) (line : List ℕ) → count < limit → slice_get lines count ≡ Some line
    → (rest : List (List ℕ)) × (take limit lines ≡ take count lines ++ line ∷ rest)
parts-before [] count limit line below is = absurd (let no : ⊥ = cc in no)
parts-before (one ∷ lines) count zero line below is = absurd (omega (arith, below))
parts-before (one ∷ lines) zero (suc limit) line below is = let same : one ≡ line = cc in (take limit lines, cc)
parts-before (one ∷ lines) (suc count) (suc limit) line below is =
    let parts = parts-before lines count limit line (omega (arith, below)) is in
    (parts.0, ap (λ (rest : List (List ℕ)). one ∷ rest) parts.1)

past-end : (lines : List (List ℕ)) (count : ℕ) → slice_get lines count ≡ None → length lines ≤ count
past-end [] count is = omega arith
past-end (one ∷ lines) zero is = absurd (let no : ⊥ = cc in no)
past-end (one ∷ lines) (suc count) is = let rest = past-end lines count is in omega (arith, rest)

-- a line that was read is text, and one that is not skipped goes on with what stands before it
record Passed (settings : Settings) (events later : List Event) (line : List ℕ) : Type 0 where
  pub text : is_text line ≡ true
  pub next : is_kept line ≡ true → GoesOn settings events later line

line-passed : (front : List (List ℕ)) (line : List ℕ) (rest : List (List ℕ)) (settings after : Settings) (events later : List Event)
    → LinesReadAs front settings events → LinesReadAs (front ++ line ∷ rest) after later → Passed settings events later line
line-passed front line rest settings after events later before all =
    let texts = and_parts (list_all is_text front) (list_all is_text (line ∷ rest))
    (sym (list_all-append is_text front (line ∷ rest)) ∙ all.all_text) in
    record {
      text = (and_parts (is_text line) (list_all is_text rest) texts.1).0;
      next = λ kept.
          let behind : filter is_kept (line ∷ rest) ≡ line ∷ filter is_kept rest = rw kept refl in
          goes-on settings after events later line (filter is_kept rest) before.good_settings before.good_events all.good_settings
          all.good_events
          (ap (λ (first : List (List ℕ)). first ++ line ∷ filter is_kept rest) (sym before.kept)
          ∙ ap (λ (last : List (List ℕ)). filter is_kept front ++ last) (sym behind)
          ∙ sym (filter-append is_kept front (line ∷ rest)) ∙ all.kept);
    }

passed : (lines : List (List ℕ)) (count limit : ℕ) (line : List ℕ) (settings after : Settings) (events later : List Event)
    → count < limit → slice_get lines count ≡ Some line → LinesReadAs (take count lines) settings events
    → LinesReadAs (take limit lines) after later → Passed settings events later line
passed lines count limit line settings after events later below is before all =
    let parts = parts-before lines count limit line below is in
    let P : List (List ℕ) → Type 0 = λ first. LinesReadAs first after later in
    line-passed (take count lines) line parts.0 settings after events later before (subst P parts.1 all)

-- a line that goes on has no fault behind settings and events
behind-faultless : (settings : Settings) (events later : List Event) (line : List ℕ) (reason : Reason) → AreSettings settings
    → GoesOn settings events later line → IsFaultBehind settings events line reason → ⊥
behind-faultless settings events later line reason good goes bad =
    elim goes [
      | inl next ↦ setting settings events reason good next bad
      | inr next ↦ event settings events reason good next bad
    ]
  where
    first : (setup : Setup) (reason : Reason) → IsSetup setup → IsSettingNext (Ready setup) [] line
        → IsFaultBehind (Ready setup) [] line reason → ⊥
    first setup NotText good next bad = bad
    first setup BadSetting good next bad = bad.1 next.0 next.1
    first setup UnknownEvent good next bad =
        let begins = next.3 refl in
        let none = bad.0 in
        cc
    first setup BadWords good next bad =
        let none = setting-begins line (next.3 refl) in
        let begins = bad.0 in
        cc
    first setup NoTable good next bad =
        let begins = next.3 refl in
        let none = (event-begins setup bad.0 bad.1 line (omega (arith, good.workers.1)) (omega (arith, good.replicas.1)) bad.2).1 in
        cc

    setting : (settings : Settings) (events : List Event) (reason : Reason) → AreSettings settings → IsSettingNext settings events line
        → IsFaultBehind settings events line reason → ⊥
    setting Nothing events NotText good next bad = bad
    setting Nothing events BadSetting good next bad = bad next.0 next.1
    setting Nothing events UnknownEvent good next bad = bad
    setting Nothing events BadWords good next bad = bad
    setting Nothing events NoTable good next bad = bad
    setting (Workers workers) events NotText good next bad = bad
    setting (Workers workers) events BadSetting good next bad = bad next.0 next.1
    setting (Workers workers) events UnknownEvent good next bad = bad
    setting (Workers workers) events BadWords good next bad = bad
    setting (Workers workers) events NoTable good next bad = bad
    setting (Replicas workers replicas) events NotText good next bad = bad
    setting (Replicas workers replicas) events BadSetting good next bad = bad next.0 next.1
    setting (Replicas workers replicas) events UnknownEvent good next bad = bad
    setting (Replicas workers replicas) events BadWords good next bad = bad
    setting (Replicas workers replicas) events NoTable good next bad = bad
    setting (Ready setup) [] reason good next bad = first setup reason good next bad
    setting (Ready setup) (one ∷ events) reason good next bad = let none = next.2 in absurd (let no : ⊥ = cc in no)

    event : (settings : Settings) (events : List Event) (reason : Reason) → AreSettings settings → IsEventNext settings later line
        → IsFaultBehind settings events line reason → ⊥
    event Nothing events reason good next bad = next
    event (Workers workers) events reason good next bad = next
    event (Replicas workers replicas) events reason good next bad = next
    event (Ready setup) [] BadSetting good next bad =
        let none = line-begins setup line (omega (arith, good.workers.1)) (omega (arith, good.replicas.1)) next.0 next.1 in
        let begins = bad.0 in
        cc
    event (Ready setup) [] NotText good next bad = bad
    event (Ready setup) [] UnknownEvent good next bad =
        event-faultless setup line (omega (arith, good.workers.1)) (omega (arith, good.replicas.1)) next.0 UnknownEvent next.1 bad
    event (Ready setup) [] BadWords good next bad =
        event-faultless setup line (omega (arith, good.workers.1)) (omega (arith, good.replicas.1)) next.0 BadWords next.1 bad
    event (Ready setup) [] NoTable good next bad =
        event-faultless setup line (omega (arith, good.workers.1)) (omega (arith, good.replicas.1)) next.0 NoTable next.1 bad
    event (Ready setup) (one ∷ events) reason good next bad =
        event-faultless setup line (omega (arith, good.workers.1)) (omega (arith, good.replicas.1)) next.0 reason next.1 bad

-- behind settings and events a line has one fault
one-behind : (settings : Settings) (events : List Event) (line : List ℕ) (one other : Reason) → AreSettings settings
    → IsFaultBehind settings events line one → IsFaultBehind settings events line other → one ≡ other
one-behind Nothing events line NotText other good a b = absurd a
one-behind Nothing events line UnknownEvent other good a b = absurd a
one-behind Nothing events line BadWords other good a b = absurd a
one-behind Nothing events line NoTable other good a b = absurd a
one-behind Nothing events line BadSetting other good a b = sym (setting-alone other b)
  where
    setting-alone : (other : Reason) → IsFaultBehind Nothing events line other → other ≡ BadSetting
    setting-alone NotText b = absurd b
    setting-alone BadSetting b = refl
    setting-alone UnknownEvent b = absurd b
    setting-alone BadWords b = absurd b
    setting-alone NoTable b = absurd b
one-behind (Workers workers) events line NotText other good a b = absurd a
one-behind (Workers workers) events line UnknownEvent other good a b = absurd a
one-behind (Workers workers) events line BadWords other good a b = absurd a
one-behind (Workers workers) events line NoTable other good a b = absurd a
one-behind (Workers workers) events line BadSetting other good a b = sym (setting-alone other b)
  where
    setting-alone : (other : Reason) → IsFaultBehind (Workers workers) events line other → other ≡ BadSetting
    setting-alone NotText b = absurd b
    setting-alone BadSetting b = refl
    setting-alone UnknownEvent b = absurd b
    setting-alone BadWords b = absurd b
    setting-alone NoTable b = absurd b
one-behind (Replicas workers replicas) events line NotText other good a b = absurd a
one-behind (Replicas workers replicas) events line UnknownEvent other good a b = absurd a
one-behind (Replicas workers replicas) events line BadWords other good a b = absurd a
one-behind (Replicas workers replicas) events line NoTable other good a b = absurd a
one-behind (Replicas workers replicas) events line BadSetting other good a b = sym (setting-alone other b)
  where
    setting-alone : (other : Reason) → IsFaultBehind (Replicas workers replicas) events line other → other ≡ BadSetting
    setting-alone NotText b = absurd b
    setting-alone BadSetting b = refl
    setting-alone UnknownEvent b = absurd b
    setting-alone BadWords b = absurd b
    setting-alone NoTable b = absurd b
one-behind (Ready setup) [] line one other good a b =
    one-event-fault setup line (omega (arith, good.workers.1)) (omega (arith, good.replicas.1)) one other (of-event one a)
    (of-event other b)
  where
    of-event : (reason : Reason) → IsFaultBehind (Ready setup) [] line reason → IsEventFault setup line reason
    of-event NotText bad = bad
    of-event BadSetting bad = bad.0
    of-event UnknownEvent bad = bad
    of-event BadWords bad = bad
    of-event NoTable bad = bad
one-behind (Ready setup) (event ∷ events) line one other good a b =
    one-event-fault setup line (omega (arith, good.workers.1)) (omega (arith, good.replicas.1)) one other a b

text-again : (line : List ℕ) → is_text line ≡ true → is_text line ≡ false → ⊥
text-again line text none = cc

-- what stands behind the test of a line's text
of-text : (settings : Settings) (events : List Event) (line : List ℕ) (reason : Reason) → is_text line ≡ true
    → IsLineFault settings events line reason → (is_kept line ≡ true) × IsFaultBehind settings events line reason
of-text settings events line NotText text bad = absurd (text-again line text bad)
of-text settings events line BadSetting text bad = (bad.1, bad.2)
of-text settings events line UnknownEvent text bad = (bad.1, bad.2)
of-text settings events line BadWords text bad = (bad.1, bad.2)
of-text settings events line NoTable text bad = (bad.1, bad.2)

-- and what is not text has no other fault
of-none : (settings : Settings) (events : List Event) (line : List ℕ) (reason : Reason) → is_text line ≡ false
    → IsLineFault settings events line reason → NotText ≡ reason
of-none settings events line NotText none bad = refl
of-none settings events line BadSetting none bad = absurd (text-again line bad.0 none)
of-none settings events line UnknownEvent none bad = absurd (text-again line bad.0 none)
of-none settings events line BadWords none bad = absurd (text-again line bad.0 none)
of-none settings events line NoTable none bad = absurd (text-again line bad.0 none)

line-faultless : (settings : Settings) (events later : List Event) (line : List ℕ) (reason : Reason) → AreSettings settings
    → Passed settings events later line → IsLineFault settings events line reason → ⊥
line-faultless settings events later line reason good passes bad =
    let behind = of-text settings events line reason passes.text bad in
    behind-faultless settings events later line reason good (passes.next behind.0) behind.1

one-on-line : (settings : Settings) (events : List Event) (line : List ℕ) (one other : Reason) → AreSettings settings
    → IsLineFault settings events line one → IsLineFault settings events line other → one ≡ other
one-on-line settings events line one other good a b = by (is_text line) refl
  where
    by : (text : Bool) → is_text line ≡ text → one ≡ other
    by true e =
        one-behind settings events line one other good (of-text settings events line one e a).1 (of-text settings events line other e b).1
    by false e = sym (of-none settings events line one e a) ∙ of-none settings events line other e b

one-next : (settings : Settings) (events : List Event) (next : Option (List ℕ)) (one other : Reason) → AreSettings settings
    → IsFaultNext settings events next one → IsFaultNext settings events next other → one ≡ other
one-next settings events (Some line) one other good a b = one-on-line settings events line one other good a b
one-next settings events None one other good a b = a.1 ∙ sym b.1

-- the same of settings alone
settings-faultless : (settings : Settings) (events later : List Event) (line : List ℕ) (reason : Reason) → AreSettings settings
    → later ≡ [] → Passed settings events later line → IsSettingsFaultNext settings events (Some line) reason → ⊥
settings-faultless settings (event ∷ events) later line reason good none passes bad = bad
settings-faultless settings [] later line NotText good none passes bad = text-again line passes.text bad
settings-faultless settings [] later line UnknownEvent good none passes bad = bad
settings-faultless settings [] later line BadWords good none passes bad = bad
settings-faultless settings [] later line NoTable good none passes bad = bad
settings-faultless settings [] later line BadSetting good none passes bad =
    elim (passes.next bad.1) [ inl next ↦ bad.2 next.0 next.1 | inr next ↦ event settings next ]
  where
    event : (settings : Settings) → IsEventNext settings later line → ⊥
    event Nothing next = next
    event (Workers workers) next = next
    event (Replicas workers replicas) next = next
    event (Ready setup) next = next.2 none

one-setting-next : (settings : Settings) (events : List Event) (next : Option (List ℕ)) (one other : Reason) → AreSettings settings
    → IsSettingsFaultNext settings events next one → IsSettingsFaultNext settings events next other → one ≡ other
one-setting-next settings (event ∷ events) next one other good a b = absurd a
one-setting-next settings [] None one other good a b = a.1 ∙ sym b.1
one-setting-next settings [] (Some line) NotText NotText good a b = refl
one-setting-next settings [] (Some line) NotText BadSetting good a b = absurd (text-again line b.0 a)
one-setting-next settings [] (Some line) NotText UnknownEvent good a b = absurd b
one-setting-next settings [] (Some line) NotText BadWords good a b = absurd b
one-setting-next settings [] (Some line) NotText NoTable good a b = absurd b
one-setting-next settings [] (Some line) BadSetting NotText good a b = absurd (text-again line a.0 b)
one-setting-next settings [] (Some line) BadSetting BadSetting good a b = refl
one-setting-next settings [] (Some line) BadSetting UnknownEvent good a b = absurd b
one-setting-next settings [] (Some line) BadSetting BadWords good a b = absurd b
one-setting-next settings [] (Some line) BadSetting NoTable good a b = absurd b
one-setting-next settings [] (Some line) UnknownEvent other good a b = absurd a
one-setting-next settings [] (Some line) BadWords other good a b = absurd a
one-setting-next settings [] (Some line) NoTable other good a b = absurd a

no-event-yet : (settings : Settings) (events : List Event) (next : Option (List ℕ)) (reason : Reason)
    → IsSettingsFaultNext settings events next reason → events ≡ []
no-event-yet settings [] next reason bad = refl
no-event-yet settings (event ∷ events) next reason bad = absurd bad

settings-end : (settings : Settings) (events : List Event) (reason : Reason) → IsSettingsFaultNext settings events None reason
    → is_ready settings ≡ false
settings-end settings [] reason bad = bad.0
settings-end settings (event ∷ events) reason bad = absurd bad

-- where a fault is told of what comes next, so that nothing goes on there and each such place has one, a text has one fault
module _ (IsNextFault : Settings → List Event → Option (List ℕ) → Reason → Type 0) (AreFine : List Event → Type 0)
    (fine : (settings : Settings) (events : List Event) (next : Option (List ℕ)) (reason : Reason)
    → IsNextFault settings events next reason → AreFine events)
    (stops : (settings : Settings) (events later : List Event) (line : List ℕ) (reason : Reason) → AreSettings settings → AreFine later
    → Passed settings events later line → IsNextFault settings events (Some line) reason → ⊥)
    (ends : (settings : Settings) (events : List Event) (reason : Reason) → IsNextFault settings events None reason
    → is_ready settings ≡ false)
    (once : (settings : Settings) (events : List Event) (next : Option (List ℕ)) (one other : Reason) → AreSettings settings
    → IsNextFault settings events next one → IsNextFault settings events next other → one ≡ other) where
  no-fault : (text : List ℕ) (setup : Setup) (events : List Event) (line : ℕ) (reason : Reason) → AreFine events
      → IsScript text setup events → IsFaultAt IsNextFault text line reason → ⊥
  no-fault text setup events line reason good is fault = by (slice_get (lines_of text) (line - 1)) refl fault.here
    where
      by : (next : Option (List ℕ)) → slice_get (lines_of text) (line - 1) ≡ next
          → IsNextFault fault.settings fault.events next reason → ⊥
      by (Some at) e here =
          let all = lines_of text in
          let within = slice_get_within all (line - 1) at e in
          let P : List (List ℕ) → Type 0 = λ lines. LinesReadAs lines (Ready setup) events in
          let whole = subst P (sym (take_all (length all) all (omega arith))) is in
          stops fault.settings fault.events events at reason fault.before.good_settings good
          (passed all (line - 1) (length all) at fault.settings (Ready setup) fault.events events within e fault.before whole) here
      by None e here =
          let all = lines_of text in
          let P : List (List ℕ) → Type 0 = λ lines. LinesReadAs lines fault.settings fault.events in
          let before = subst P (take_all (line - 1) all (past-end all (line - 1) e)) fault.before in
          let same = begins-once fault.settings (Ready setup) fault.events events before.good_settings before.good_events is.good_settings
          is.good_events (sym before.kept ∙ is.kept) in
          let ready : is_ready fault.settings ≡ true = ap is_ready same.0 in
          let none = ends fault.settings fault.events reason here in
          cc

  no-earlier : (text : List ℕ) (line other : ℕ) (reason why : Reason) → IsFaultAt IsNextFault text line reason
      → IsFaultAt IsNextFault text other why → line < other → ⊥
  no-earlier text line other reason why fault later below = by (slice_get (lines_of text) (line - 1)) refl fault.here
    where
      by : (next : Option (List ℕ)) → slice_get (lines_of text) (line - 1) ≡ next
          → IsNextFault fault.settings fault.events next reason → ⊥
      by (Some at) e here =
          let all = lines_of text in
          let before : line - 1 < other - 1 = omega (arith, fault.counted, below) in
          stops fault.settings fault.events later.events at reason fault.before.good_settings
          (fine later.settings later.events (slice_get all (other - 1)) why later.here)
          (passed all (line - 1) (other - 1) at fault.settings later.settings fault.events later.events before e
          fault.before later.before) here
      by None e here =
          let past = past-end (lines_of text) (line - 1) e in
          omega (arith, past, below, fault.counted, later.within)

  one-reason : (text : List ℕ) (line : ℕ) (reason why : Reason) → IsFaultAt IsNextFault text line reason
      → IsFaultAt IsNextFault text line why → reason ≡ why
  one-reason text line reason why fault also =
      let next = slice_get (lines_of text) (line - 1) in
      let same = begins-once fault.settings also.settings fault.events also.events fault.before.good_settings fault.before.good_events
      also.before.good_settings also.before.good_events (sym fault.before.kept ∙ also.before.kept) in
      let P : Settings → Type 0 = λ settings. IsNextFault settings also.events next why in
      let Q : List Event → Type 0 = λ events. IsNextFault fault.settings events next why in
      once fault.settings fault.events next reason why fault.before.good_settings fault.here
      (subst Q (sym same.1) (subst P (sym same.0) also.here))

  one-fault : (text : List ℕ) (line other : ℕ) (reason why : Reason) → IsFaultAt IsNextFault text line reason
      → IsFaultAt IsNextFault text other why → (line ≡ other) × (reason ≡ why)
  one-fault text line other reason why fault also =
      elim (cases_order line other) [
        | inl same ↦
            let P : ℕ → Type 0 = λ at. IsFaultAt IsNextFault text at why in
            (same, one-reason text line reason why fault (subst P (sym same) also))
        | inr apart ↦
            elim apart [
              | inl below ↦ absurd (no-earlier text line other reason why fault also below)
              | inr above ↦ absurd (no-earlier text other line why reason also fault above)
            ]
      ]

pub script-faultless : ScriptsHaveNoFault
script-faultless text setup events line reason is fault =
    no-fault IsFaultNext (λ events. Unit {0}) (λ settings events next reason bad. tt)
    (λ settings events later line reason good any passes bad. line-faultless settings events later line reason good passes bad)
    (λ settings events reason bad. bad.0) one-next text setup events line reason tt is fault

pub text-once : TextsHaveOneFault
text-once text line other reason why fault also =
    one-fault IsFaultNext (λ events. Unit {0}) (λ settings events next reason bad. tt)
    (λ settings events later line reason good any passes bad. line-faultless settings events later line reason good passes bad)
    (λ settings events reason bad. bad.0) one-next text line other reason why fault also

pub settings-no-fault : SettingsHaveNoFault
settings-no-fault text setup line reason is fault =
    no-fault IsSettingsFaultNext (λ events. events ≡ []) no-event-yet settings-faultless settings-end one-setting-next text setup [] line
    reason refl is fault

pub settings-once : SettingsHaveOneFault
settings-once text line other reason why fault also =
    one-fault IsSettingsFaultNext (λ events. events ≡ []) no-event-yet settings-faultless settings-end one-setting-next text line other
    reason why fault also

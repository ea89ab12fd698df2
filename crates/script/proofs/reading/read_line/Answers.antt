-- An event or a setting stands behind what was read before it.
use Rattle.std.proofs.Common.{◌≡◌, ◌∙◌, [], true, false, sym, ap, arith, length, vec_len}
use Rattle.std.proofs.lemmas.Bool.{eqb-true, eqb-false}
use Rattle.script.specs.EventLines.{begins_with, setting_names}
use Rattle.script.proofs.OneLine.{event-read, event-not, setting-line, none-before, no-events, not-ready}
use Rattle.script.proofs.reading.read_line.Goals as goal
use Rattle.script.proofs.reading.read_line.Goals.{then-not-is_empty-via-then-not-is_empty}
use Rattle.script.proofs.reading.read_line.Goals.{then-not-is_empty-via-else-not-is_empty+then-not-begins_as_setting}
use Rattle.script.proofs.reading.read_line.Goals.{in-Ready+else-not-is_empty+else-not-begins_as_setting, in_default}

pub returns-in-Ok : goal.returns-in-Ok
returns-in-Ok c =
    let added = c.in-Ok.ensures.read in
    rw c.in-Ready.is
    (event-read c.in-Ready.setup c.args.line.now c.args.events.now.items c.add_event.new.events.items added.0
    (sym c.is_text.ensures ∙ c.if-not-is_text.false) (sym c.is_kept.ensures ∙ c.if-not-is_kept.false)
    (rw c.in-Ready.is at c.requires.settings) (rw c.in-Ready.is at c.requires.events) added.1 added.2)

pub returns-in-Err : goal.returns-in-Err
returns-in-Err c =
    let events = c.args.events.now.items in
    let line = c.args.line.now in
    let other : events ≡ [] → begins_with setting_names line ≡ false = λ none.
    elim c.then-not-is_empty.branch [
      | then-not-is_empty-via-then-not-is_empty w ↦
          let empty : length events ≡ 0 = ap length none in
          let some = eqb-false (vec_len c.args.events.now) 0 (sym c.is_empty.ensures ∙ w.if-not-is_empty.true) in
          absurd (first_of (omega (arith, empty, some), grind (arith, empty, some)))
      | then-not-is_empty-via-else-not-is_empty+then-not-begins_as_setting w ↦
          sym w.begins_as_setting.ensures ∙ w.if-not-begins_as_setting.true
    ] in
    rw c.in-Ready.is
    (event-not c.in-Ready.setup line events c.in-Err.fault (sym c.is_text.ensures ∙ c.if-not-is_text.false)
    (sym c.is_kept.ensures ∙ c.if-not-is_kept.false) other c.in-Err.ensures.fault)

pub returns : goal.returns
returns c =
    let events = c.args.events.now.items in
    let text = sym c.is_text.ensures ∙ c.if-not-is_text.false in
    let kept = sym c.is_kept.ensures ∙ c.if-not-is_kept.false in
    elim c.match-settings-2.branch [
      | in-Ready+else-not-is_empty+else-not-begins_as_setting w ↦
          let zero = eqb-true (vec_len c.args.events.now) 0 (sym w.is_empty.ensures ∙ w.if-not-is_empty.false) in
          let none : length events ≡ 0 = first_of (omega (arith, zero), grind (arith, zero)) in
          setting-line c.args.settings c.args.line.now events c.read_setting.result text kept
          (no-events events none)
          (λ ready. sym w.begins_as_setting.ensures ∙ w.if-not-begins_as_setting.false) c.read_setting.ensures
      | in_default w ↦
          let before = not-ready c.args.settings w.in_default.not-Ready in
          setting-line c.args.settings c.args.line.now events c.read_setting.result text kept
          (none-before c.args.settings events before c.requires.events)
          (λ ready. absurd (let no : true ≡ false = sym ready ∙ before in cc)) c.read_setting.ensures
    ]

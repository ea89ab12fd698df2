-- Each event with its output is made once, for its length.
use Rattle.std.proofs.Common.{◌≡◌, ℕ, ◌<◌, List, ◌++◌, length, Some, inl, inr, refl, sym, ap, ◌∙◌, arith}
use Rattle.std.specs.List.{slice_get}
use Rattle.std.proofs.lemmas.Bool.{cases_lt}
use Rattle.std.proofs.lemmas.Option.{slice_get_read, slice_get_within, same_Some}
use Rattle.script.specs.declared.event.Event.{Event}
use Rattle.script.specs.declared.output.Output.{Output}
use Rattle.script.specs.EventText.{echoed_one}
use Rattle.script.proofs.writing.room_for_echoed.Goals as goal
use Rattle.script.proofs.writing.room_for_echoed.Goals.{then-events-outputs, else-events-outputs}

pub loop-index-preserved : goal.loop-index-preserved
loop-index-preserved c =
    let schema = c.args.schema.now in
    let events = c.args.events.now in
    let outputs = c.args.outputs.now in
    let index = c.loop-index.index in
    let event = c.index-events-index.result in
    let output = c.index-outputs-index.result in
    let text = c.push_echoed.new.text in
    let among_events : index < length events =
    elim c.if-events-outputs.branch [ then-events-outputs w ↦ omega arith | else-events-outputs w ↦ omega arith ] in
    let among_outputs : index < length outputs =
    elim c.if-events-outputs.branch [ then-events-outputs w ↦ omega arith | else-events-outputs w ↦ omega arith ] in
    let event_there : slice_get events index ≡ Some event =
    slice_get_read events _ index event refl among_events c.index-events-index.is in
    let output_there : slice_get outputs index ≡ Some output =
    slice_get_read outputs _ index output refl among_outputs c.index-outputs-index.is in
    let added : text.items ≡ c.clear.new.self.items ++ echoed_one schema event output = c.in_ok-push_echoed.ensures in
    let made : length text.items ≡ length (echoed_one schema event output) =
    ap length (added ∙ ap (λ (l : List ℕ). l ++ echoed_one schema event output) c.clear.ensures.items) in
    record {
      small = omega (arith, text.ok.0, text.ok.1, text.small);
      within = λ at one other below here there. elim (cases_lt at index) [
        | inl before ↦ let old = c.loop-index.invariant.within at one other before here there in omega arith
        | inr past ↦
            let same : at ≡ index = omega arith in
            let is : one ≡ event = same_Some one event (sym here ∙ ap (slice_get events) same ∙ event_there) in
            let also : other ≡ output = same_Some other output (sym there ∙ ap (slice_get outputs) same ∙ output_there) in
            let len = ap (λ (e : Event). length (echoed_one schema e other)) is
            ∙ ap (λ (o : Output). length (echoed_one schema event o)) also in
            omega (arith, text.ok.0)
      ];
    }

pub returns-clause-room : goal.returns-clause-room
returns-clause-room c = λ at event output here there.
    let among_events = slice_get_within c.args.events.now at event here in
    let among_outputs = slice_get_within c.args.outputs.now at output there in
    let within : at < c.loop-index.index =
    elim c.if-events-outputs.branch [ then-events-outputs w ↦ omega arith | else-events-outputs w ↦ omega arith ] in
    let old = c.loop-index.invariant.within at event output within here there in
    omega (arith, c.in_ok-reserve.ensures.ok)

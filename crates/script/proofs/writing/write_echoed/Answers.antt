-- Each event's line and its output's are gathered, and the text is written up to what is left of it.
use Rattle.std.proofs.Common.{◌≡◌, ℕ, ◌+◌, ◌<◌, ◌≤◌, List, [], ◌∷◌, ◌++◌, ◌⊎◌, inl, inr, length, get_or, drop}
use Rattle.std.proofs.Common.{refl, sym, ap, ◌∙◌, subst, arith}
use Rattle.std.proofs.lemmas.List.{drop_more, drop_all}
use Rattle.rows.specs.declared.kind.Kind.{Kind}
use Rattle.script.specs.declared.event.Event.{Event}
use Rattle.script.specs.declared.output.Output.{Output}
use Rattle.script.specs.EventText.{echoed_one, echoed_text}
use Rattle.script.specs.Writing.{IsWrittenBut}
use Rattle.script.proofs.Pieces.{line_written, line_cut, end_written, end_cut, when_err, then_ok, then_err}
use Rattle.script.proofs.writing.write_echoed.Goals as goal
use Rattle.script.proofs.writing.write_echoed.Goals.{then-events-outputs, else-events-outputs}

module _ (schema : List (List ℕ × List Kind)) where
  next_lines : (events : List Event) (outputs : List Output) (index : ℕ) (event : Event) (output : Output)
      → index < length events → index < length outputs → event ≡ get_or events index event → output ≡ get_or outputs index output
      → echoed_text schema (drop index events) (drop index outputs)
      ≡ echoed_one schema event output ++ echoed_text schema (drop (index + 1) events) (drop (index + 1) outputs)
  next_lines events outputs index event output among_events among_outputs event_at output_at =
      let rest_events = drop (index + 1) events in
      let rest_outputs = drop (index + 1) outputs in
      let events_are = drop_more events index event among_events ∙ ap (λ (e : Event). e ∷ rest_events) (sym event_at) in
      let outputs_are = drop_more outputs index output among_outputs ∙ ap (λ (o : Output). o ∷ rest_outputs) (sym output_at) in
      ap (λ (rest : List Event). echoed_text schema rest (drop index outputs)) events_are
      ∙ ap (λ (rest : List Output). echoed_text schema (event ∷ rest_events) rest) outputs_are

  no-outputs : (events : List Event) → echoed_text schema events [] ≡ []
  no-outputs [] = refl
  no-outputs (event ∷ events) = refl

  none_left : (events : List Event) (outputs : List Output) (index : ℕ) → (length events ≤ index) ⊎ (length outputs ≤ index)
      → echoed_text schema (drop index events) (drop index outputs) ≡ []
  none_left events outputs index (inl past) =
      ap (λ (rest : List Event). echoed_text schema rest (drop index outputs)) (drop_all index events past)
  none_left events outputs index (inr past) =
      ap (λ (rest : List Output). echoed_text schema (drop index events) rest) (drop_all index outputs past)
      ∙ no-outputs (drop index events)

pub returns-in_err-write_piece-clause-interrupted : goal.returns-in_err-write_piece-clause-interrupted
returns-in_err-write_piece-clause-interrupted g c =
    let old = g.W.Write.contents c.args.writer.now in
    let mid = g.W.Write.contents c.loop-index.writer in
    let new = g.W.Write.contents c.write_piece.new.writer in
    let schema = c.args.schema.now in
    let events = c.args.events.now in
    let outputs = c.args.outputs.now in
    let index = c.loop-index.index in
    let event = c.index-events-index.result in
    let output = c.index-outputs-index.result in
    let gathered = c.loop-index.text.items in
    let among_events : index < length events =
    elim c.if-events-outputs.branch [ then-events-outputs w ↦ omega arith | else-events-outputs w ↦ omega arith ] in
    let among_outputs : index < length outputs =
    elim c.if-events-outputs.branch [ then-events-outputs w ↦ omega arith | else-events-outputs w ↦ omega arith ] in
    let lines =
    next_lines schema events outputs index event output among_events among_outputs c.index-events-index.is c.index-outputs-index.is in
    when_err c.from_residual-in_err-write_piece.result
    (line_cut old mid new (echoed_text schema events outputs) gathered (echoed_one schema event output)
    (echoed_text schema (drop (index + 1) events) (drop (index + 1) outputs)) c.push_echoed.new.text.items
    (subst (λ (l : List ℕ). IsWrittenBut old mid (echoed_text schema events outputs) (gathered ++ l)) lines c.loop-index.invariant)
    c.in_ok-push_echoed.ensures c.in_err-write_piece.ensures.interrupted)

pub loop-index-preserved : goal.loop-index-preserved
loop-index-preserved g c =
    let old = g.W.Write.contents c.args.writer.now in
    let mid = g.W.Write.contents c.loop-index.writer in
    let new = g.W.Write.contents c.write_piece.new.writer in
    let schema = c.args.schema.now in
    let events = c.args.events.now in
    let outputs = c.args.outputs.now in
    let index = c.loop-index.index in
    let event = c.index-events-index.result in
    let output = c.index-outputs-index.result in
    let gathered = c.loop-index.text.items in
    let among_events : index < length events =
    elim c.if-events-outputs.branch [ then-events-outputs w ↦ omega arith | else-events-outputs w ↦ omega arith ] in
    let among_outputs : index < length outputs =
    elim c.if-events-outputs.branch [ then-events-outputs w ↦ omega arith | else-events-outputs w ↦ omega arith ] in
    let lines =
    next_lines schema events outputs index event output among_events among_outputs c.index-events-index.is c.index-outputs-index.is in
    line_written old mid new (echoed_text schema events outputs) gathered (echoed_one schema event output)
    (echoed_text schema (drop (index + 1) events) (drop (index + 1) outputs)) c.push_echoed.new.text.items
    c.write_piece.new.text.items
    (subst (λ (l : List ℕ). IsWrittenBut old mid (echoed_text schema events outputs) (gathered ++ l)) lines c.loop-index.invariant)
    c.in_ok-push_echoed.ensures c.in_ok-write_piece.ensures.written

pub returns-clause-written : goal.returns-clause-written
returns-clause-written g c =
    let old = g.W.Write.contents c.args.writer.now in
    let mid = g.W.Write.contents c.loop-index.writer in
    let new = g.W.Write.contents c.write_bytes.new.writer in
    let schema = c.args.schema.now in
    let events = c.args.events.now in
    let outputs = c.args.outputs.now in
    let index = c.loop-index.index in
    let gathered = c.loop-index.text.items in
    let past : (length events ≤ index) ⊎ (length outputs ≤ index) =
    elim c.if-events-outputs.branch [ then-events-outputs w ↦ inl (omega arith) | else-events-outputs w ↦ inr (omega arith) ] in
    then_ok c.write_bytes.result
    (end_written old mid new (echoed_text schema events outputs) gathered
    (subst (λ (l : List ℕ). IsWrittenBut old mid (echoed_text schema events outputs) (gathered ++ l))
    (none_left schema events outputs index past) c.loop-index.invariant))
    (rw c.as_slice.ensures.value at c.write_bytes.ensures.written)

pub returns-clause-interrupted : goal.returns-clause-interrupted
returns-clause-interrupted g c =
    let old = g.W.Write.contents c.args.writer.now in
    let mid = g.W.Write.contents c.loop-index.writer in
    let new = g.W.Write.contents c.write_bytes.new.writer in
    let schema = c.args.schema.now in
    let events = c.args.events.now in
    let outputs = c.args.outputs.now in
    let index = c.loop-index.index in
    let gathered = c.loop-index.text.items in
    let past : (length events ≤ index) ⊎ (length outputs ≤ index) =
    elim c.if-events-outputs.branch [ then-events-outputs w ↦ inl (omega arith) | else-events-outputs w ↦ inr (omega arith) ] in
    then_err c.write_bytes.result
    (end_cut old mid new (echoed_text schema events outputs) gathered
    (subst (λ (l : List ℕ). IsWrittenBut old mid (echoed_text schema events outputs) (gathered ++ l))
    (none_left schema events outputs index past) c.loop-index.invariant))
    (rw c.as_slice.ensures.value at c.write_bytes.ensures.interrupted)

-- Each output's lines are gathered, and the text is written up to what is left of it.
use Rattle.std.proofs.Common.{◌≡◌, ℕ, ◌+◌, ◌<◌, ◌≤◌, List, [], ◌++◌, length, get_or, drop, refl, ap, subst}
use Rattle.std.proofs.lemmas.List.{drop_more, drop_all}
use Rattle.script.specs.declared.output.Output.{Output}
use Rattle.script.specs.OutputText.{output_text, outputs_text}
use Rattle.script.specs.Writing.{IsWrittenBut}
use Rattle.script.proofs.Pieces.{line_written, line_cut, end_cut, when_err, then_err}
use Rattle.script.proofs.writing.write_outputs.Goals as goal

next_lines : (outputs : List Output) (index : ℕ) (output : Output) → index < length outputs → output ≡ get_or outputs index output
    → outputs_text (drop index outputs) ≡ output_text output ++ outputs_text (drop (index + 1) outputs)
next_lines outputs index output within at = rw (drop_more outputs index output within, ← at) refl

none_left : (outputs : List Output) (index : ℕ) → length outputs ≤ index → outputs_text (drop index outputs) ≡ []
none_left outputs index past = ap outputs_text (drop_all index outputs past)

pub returns-in_err-write_piece-clause-interrupted : goal.returns-in_err-write_piece-clause-interrupted
returns-in_err-write_piece-clause-interrupted g c =
    let old = g.W.Write.contents c.args.writer.now in
    let mid = g.W.Write.contents c.loop-output.writer in
    let new = g.W.Write.contents c.write_piece.new.writer in
    let outputs = c.args.outputs.now in
    let index = c.loop-output.output-index in
    let output = c.output-item.result in
    let gathered = c.loop-output.text.items in
    let lines = next_lines outputs index output c.loop-output-test.true c.output-item.is in
    when_err c.from_residual-in_err-write_piece.result
    (line_cut old mid new (outputs_text outputs) gathered (output_text output) (outputs_text (drop (index + 1) outputs))
    c.push_output.new.text.items
    (subst (λ (l : List ℕ). IsWrittenBut old mid (outputs_text outputs) (gathered ++ l)) lines c.loop-output.invariant)
    c.in_ok-push_output.ensures c.in_err-write_piece.ensures.interrupted)

pub loop-output-preserved : goal.loop-output-preserved
loop-output-preserved g c =
    let old = g.W.Write.contents c.args.writer.now in
    let mid = g.W.Write.contents c.loop-output.writer in
    let new = g.W.Write.contents c.write_piece.new.writer in
    let outputs = c.args.outputs.now in
    let index = c.loop-output.output-index in
    let output = c.output-item.result in
    let gathered = c.loop-output.text.items in
    let lines = next_lines outputs index output c.loop-output-test.true c.output-item.is in
    line_written old mid new (outputs_text outputs) gathered (output_text output) (outputs_text (drop (index + 1) outputs))
    c.push_output.new.text.items c.write_piece.new.text.items
    (subst (λ (l : List ℕ). IsWrittenBut old mid (outputs_text outputs) (gathered ++ l)) lines c.loop-output.invariant)
    c.in_ok-push_output.ensures c.in_ok-write_piece.ensures.written

pub returns-clause-interrupted : goal.returns-clause-interrupted
returns-clause-interrupted g c =
    let old = g.W.Write.contents c.args.writer.now in
    let mid = g.W.Write.contents c.loop-output.writer in
    let new = g.W.Write.contents c.write_bytes.new.writer in
    let outputs = c.args.outputs.now in
    let gathered = c.loop-output.text.items in
    let none = none_left outputs c.loop-output.output-index c.loop-output-test.false in
    then_err c.write_bytes.result
    (end_cut old mid new (outputs_text outputs) gathered
    (subst (λ (l : List ℕ). IsWrittenBut old mid (outputs_text outputs) (gathered ++ l)) none c.loop-output.invariant))
    (rw c.as_slice.ensures.value at c.write_bytes.ensures.interrupted)

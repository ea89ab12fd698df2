-- Each output is made once, for its length.
use Rattle.std.proofs.Common.{◌≡◌, ℕ, List, ◌++◌, length, Some, inl, inr, refl, sym, ap, ◌∙◌, arith}
use Rattle.std.specs.List.{slice_get}
use Rattle.std.proofs.lemmas.Bool.{cases_lt}
use Rattle.std.proofs.lemmas.Option.{slice_get_read, slice_get_within, same_Some}
use Rattle.script.specs.declared.output.Output.{Output}
use Rattle.script.specs.OutputText.{output_text}
use Rattle.script.proofs.writing.room_for.Goals as goal

pub loop-output-preserved : goal.loop-output-preserved
loop-output-preserved c =
    let outputs = c.args.outputs.now in
    let at = c.loop-output.output-index in
    let this = c.output-item.result in
    let text = c.push_output.new.text in
    let there : slice_get outputs at ≡ Some this =
    slice_get_read outputs _ at this refl c.loop-output-test.true c.output-item.is in
    let added : text.items ≡ c.clear.new.self.items ++ output_text this = c.in_ok-push_output.ensures in
    let made : length text.items ≡ length (output_text this) =
    ap length (added ∙ ap (λ (l : List ℕ). l ++ output_text this) c.clear.ensures.items) in
    record {
      small = omega (arith, text.ok.0, text.ok.1, text.small);
      within = λ index output below here. elim (cases_lt index at) [
        | inl before ↦ let old = c.loop-output.invariant.within index output before here in omega arith
        | inr past ↦
            let same : index ≡ at = omega arith in
            let is : output ≡ this = same_Some output this (sym here ∙ ap (slice_get outputs) same ∙ there) in
            let len = ap (λ (o : Output). length (output_text o)) is in
            omega (arith, text.ok.0)
      ];
    }

pub returns-clause-room : goal.returns-clause-room
returns-clause-room c = λ index output here.
    let outputs = c.args.outputs.now in
    let within = slice_get_within outputs index output here in
    let old = c.loop-output.invariant.within index output (omega arith) here in
    omega (arith, c.in_ok-reserve.ensures.ok)

-- None of the outputs so far has a longer text.
use Rattle.std.proofs.Common.{◌≡◌, ℕ, ◌^◌, ◌<◌, ◌≤◌, length, Some}
use Rattle.std.specs.List.{slice_get}
use Rattle.script.specs.declared.output.Output.{Output}
use Rattle.script.specs.OutputText.{output_text}
use Rattle.script.proofs.writing.room_for.Given as goal

abbrev pub invariant-loop-output : goal.invariant-loop-output
invariant-loop-output l = record {
  small : l.longest < 2 ^ 63;
  within : (index : ℕ) (output : Output) → index < l.output-index → slice_get l.outputs index ≡ Some output
      → length (output_text output) ≤ l.longest;
}

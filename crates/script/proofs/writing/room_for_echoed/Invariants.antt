-- None of the events so far has, with its output, a longer text.
use Rattle.std.proofs.Common.{◌≡◌, ℕ, ◌^◌, ◌<◌, ◌≤◌, length, Some}
use Rattle.std.specs.List.{slice_get}
use Rattle.script.specs.declared.event.Event.{Event}
use Rattle.script.specs.declared.output.Output.{Output}
use Rattle.script.specs.EventText.{echoed_one}
use Rattle.script.proofs.writing.room_for_echoed.Given as goal

abbrev pub invariant-loop-index : goal.invariant-loop-index
invariant-loop-index l = record {
  small : l.longest < 2 ^ 63;
  within : (at : ℕ) (event : Event) (output : Output) → at < l.index → slice_get l.events at ≡ Some event
      → slice_get l.outputs at ≡ Some output → length (echoed_one l.schema event output) ≤ l.longest;
}

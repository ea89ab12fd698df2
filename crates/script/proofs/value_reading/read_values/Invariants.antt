-- The values so far, and those of the words that are left, are the values of all.
use Rattle.std.proofs.Common.{◌≡◌, map, drop}
use Rattle.script.specs.Inner.WordReading.{values_in_words}
use Rattle.script.proofs.Values.{behind}
use Rattle.script.proofs.value_reading.read_values.Given as goal

abbrev pub invariant-loop-word : goal.invariant-loop-word
invariant-loop-word l =
    values_in_words (map (λ word. word.now) l.words) ≡ behind l.values.items
    (values_in_words (map (λ word. word.now) (drop l.word-index l.words)))

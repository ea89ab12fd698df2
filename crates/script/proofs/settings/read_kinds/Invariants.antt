-- The words so far name the kinds so far.
use Rattle.std.proofs.Common.{take}
use Rattle.script.specs.Inner.SettingWords.{texts, AreKinds}
use Rattle.script.proofs.settings.read_kinds.Given as goal

abbrev pub invariant-loop-word : goal.invariant-loop-word
invariant-loop-word l = AreKinds (texts (take l.word-index l.words)) l.kinds.items

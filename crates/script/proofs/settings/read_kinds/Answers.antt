-- A word that is no kind is no column's.
use Rattle.std.proofs.Common.{[], refl, arith}
use Rattle.script.proofs.KindReading.{kinds-none}
use Rattle.script.proofs.settings.read_kinds.Goals as goal

pub returns-in_default : goal.returns-in_default
returns-in_default c =
    (refl, kinds-none c.args.words.now c.loop-word.word-index (record { ref_ptr = (0, 0); now = [] }) (omega arith) c.in_default.ensures)

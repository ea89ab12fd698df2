-- The bytes so far, and those of the digits that are left, are the bytes of all.
use Rattle.std.proofs.Common.{◌≡◌, ◌*◌, drop}
use Rattle.script.specs.Inner.WordReading.{bytes_of_digits}
use Rattle.script.proofs.Hex.{onto}
use Rattle.script.proofs.value_reading.read_bytes.Given as goal

abbrev pub invariant-loop-index : goal.invariant-loop-index
invariant-loop-index l = bytes_of_digits l.word ≡ onto l.bytes.items (bytes_of_digits (drop (2 * l.index) l.word))

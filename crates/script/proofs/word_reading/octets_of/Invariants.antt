-- The bytes so far, and those of the digits that are left, are the bytes of all.
use Rattle.std.proofs.Common.{◌≡◌, ◌*◌, take, drop, length}
use Rattle.script.specs.Inner.WordReading.{bytes_of_digits}
use Rattle.script.proofs.Hex.{onto}
use Rattle.script.proofs.word_reading.octets_of.Given as goal

abbrev pub invariant-loop-index : goal.invariant-loop-index
invariant-loop-index l = record {
  room : length l.bytes ≡ 64;
  made : bytes_of_digits l.digits ≡ onto (take l.index l.bytes) (bytes_of_digits (drop (2 * l.index) l.digits));
}

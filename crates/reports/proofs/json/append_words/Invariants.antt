-- The bytes before the index are written.
use Rattle.std.proofs.Common.{◌≡◌, ◌++◌, take}
use Rattle.std.specs.List.{flat_map}
use Rattle.reports.specs.Inner.Pieces.{byte_json}
use Rattle.reports.proofs.json.append_words.Given as goal

abbrev pub invariant-loop-byte : goal.invariant-loop-byte
invariant-loop-byte l = l.json.items ≡ l.initial.json.items ++ flat_map byte_json (take l.byte-index l.line)

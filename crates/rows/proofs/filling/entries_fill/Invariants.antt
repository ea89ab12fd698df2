-- What is left to read answers as all the bytes do.
use Rattle.std.proofs.Common.{◌≡◌, is_some, ◌-◌}
use Rattle.rows.specs.Reading.{entries_filling}
use Rattle.rows.proofs.filling.entries_fill.Given as goal

abbrev pub invariant-loop : goal.invariant-loop
invariant-loop l = is_some (entries_filling (l.count - l.counter) l.rest) ≡ is_some (entries_filling l.count l.bytes)

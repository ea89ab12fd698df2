-- The entries so far, before those that are left to read, are those of all the bytes.
use Rattle.std.proofs.Common.{◌≡◌, ◌-◌, ◌++◌}
use Rattle.std.specs.Option.{option_map}
use Rattle.rows.specs.Reading.{entries_filling}
use Rattle.rows.proofs.filling.read_entries.Given as goal

abbrev pub invariant-loop : goal.invariant-loop
invariant-loop l =
    entries_filling l.count l.bytes ≡ option_map (λ others. l.entries ++ others) (entries_filling (l.count - l.counter) l.rest)

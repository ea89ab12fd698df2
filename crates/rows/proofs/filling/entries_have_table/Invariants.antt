-- Those that are left to read answer as all the entries do.
use Rattle.std.proofs.Common.{◌≡◌, ◌-◌, [], Some, nat_lt}
use Rattle.std.specs.List.{list_all}
use Rattle.std.specs.Option.{option_map, unwrap_or}
use Rattle.rows.specs.Entries.{table_of}
use Rattle.rows.specs.Reading.{entries_filling}
use Rattle.rows.proofs.filling.entries_have_table.Given as goal

abbrev pub invariant-loop : goal.invariant-loop
invariant-loop l =
    Some (list_all (λ entry. nat_lt (table_of entry) l.tables) (unwrap_or (entries_filling l.count l.bytes) []))
    ≡ option_map (list_all (λ entry. nat_lt (table_of entry) l.tables)) (entries_filling (l.count - l.counter) l.rest)

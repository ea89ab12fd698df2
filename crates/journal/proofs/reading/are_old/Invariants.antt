-- What is left decides for all.
use Rattle.std.proofs.Common.{◌≡◌, drop, is_some}
use Rattle.std.specs.List.{list_all}
use Rattle.rows.specs.Entries.{row_of}
use Rattle.journal.proofs.reading.are_old.Given as goal

abbrev pub invariant-loop-entry : goal.invariant-loop-entry
invariant-loop-entry l =
    list_all (λ entry. is_some (row_of entry)) (drop l.entry-index l.entries) ≡ list_all (λ entry. is_some (row_of entry)) l.entries

-- The fields before the index are merged, and those from it on are to be; so far each is within its rows, or all.
use Rattle.std.proofs.Common.{◌≡◌, ℕ, ◌+◌, ◌<◌, ◌≤◌, ◌++◌, length, take, drop, get_or}
use Rattle.std.specs.List.{All}
use Rattle.queries.specs.declared.field.Field.{Field}
use Rattle.plans.specs.Inner.Kept.{IsWithin}
use Rattle.plans.specs.Inner.Merged.{merged_all}
use Rattle.plans.proofs.field_merging.merged_all.Given as goal

abbrev pub invariant-loop-index : goal.invariant-loop-index
invariant-loop-index l = record {
  whole : take l.index l.others ++ merged_all (drop l.index l.aggregates) (drop l.index l.fields) (drop l.index l.others)
      ≡ merged_all l.aggregates l.fields l.initial.others;
  rest : (k : ℕ) (d : Field) → l.index ≤ k → k < length l.others → IsWithin l.other_rows (get_or l.others k d);
  all : All (IsWithin (l.rows + l.other_rows)) l.others;
}

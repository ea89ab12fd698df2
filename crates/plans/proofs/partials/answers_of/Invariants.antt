-- The answers so far are those of the groups before the index.
use Rattle.std.proofs.Common.{◌≡◌, map, take}
use Rattle.std.specs.List.{All}
use Rattle.std.specs.List.Sorted.{IsStrictlySortedBy}
use Rattle.std.specs.Map.{keys_of}
use Rattle.queries.specs.Order.{group_cmp}
use Rattle.plans.specs.Inner.Ranges.{lines_of}
use Rattle.plans.proofs.partials.answers_of.Given as goal

abbrev pub invariant-loop-list : goal.invariant-loop-list
invariant-loop-list l = record {
  lines : l.answers.items ≡ map lines_of (take l.list-index l.groups);
  ordered : All (λ list. IsStrictlySortedBy group_cmp (keys_of list)) (take l.list-index l.groups);
}

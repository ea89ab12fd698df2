-- What the groups of an answer are, whatever way they are put in order.
use Rattle.std.specs.Prelude.{List, ◌↔◌}
use Rattle.std.specs.List.{Contains}
use Rattle.std.specs.List.Sorted.{IsStrictlySortedBy}
use Rattle.rows.specs.declared.value.Value.{Value}
use Rattle.queries.specs.Order.{group_cmp, rising}

-- the groups of an answer rise, so each is there once
abbrev pub GroupsRise : Type 0
GroupsRise = (groups : List (List Value)) → IsStrictlySortedBy group_cmp (rising groups)

-- and they are those of the rows
abbrev pub GroupsStay : Type 0
GroupsStay = (groups : List (List Value)) (group : List Value) → Contains (rising groups) group ↔ Contains groups group

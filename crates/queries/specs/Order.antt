-- The order of values, and of lists of them.
use Rattle.std.specs.Prelude.{List, [], ◌∷◌}
use Rattle.std.specs.Ordering.{nat_cmp, int_cmp}
use Rattle.std.specs.Cmp.Lexicographic.{slice_cmp}
use Rattle.std.specs.BTreeSet.{insert_key}
use Rattle.std.specs.declared.cmp.Ordering.{Ordering}
use Rattle.std.specs.declared.cmp.Ordering.TheVariants.{Less, Greater}
use Rattle.rows.specs.declared.value.Value.{Value}
use Rattle.rows.specs.declared.value.Value.TheVariants.{Int, Octets}

-- integers are ordered as numbers; octets by their bytes, the first that differs deciding. A column has values of one
-- kind; among others, numbers come first
abbrev pub value_cmp : Value → Value → Ordering
value_cmp (Int number) (Int other) = int_cmp number other
value_cmp (Int number) (Octets other) = Less
value_cmp (Octets bytes) (Int other) = Greater
value_cmp (Octets bytes) (Octets other) = slice_cmp nat_cmp bytes other

-- groups are ordered by their first value, and then by their second
abbrev pub group_cmp : List Value → List Value → Ordering
group_cmp group other = slice_cmp value_cmp group other

-- these groups, each once, in rising order
abbrev pub rising : List (List Value) → List (List Value)
rising [] = []
rising (group ∷ groups) = insert_key group_cmp (rising groups) group

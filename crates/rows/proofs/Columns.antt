-- The column whose bytes a patch has exactly: its kind is one of the table's, as wide as the patch.
use Rattle.std.proofs.Common.{◌≡◌, ℕ, ◌+◌, ◌-◌, true, List, [], ◌∷◌, Some, arith}
use Rattle.std.specs.List.{list_all}
use Rattle.std.proofs.lemmas.Bool.{and_parts}
use Rattle.rows.specs.declared.kind.Kind.{Kind}
use Rattle.rows.specs.Shape.{width_of, is_good, column_from}
use Rattle.rows.specs.Laws.{FoundColumnsFit}

-- a column that was found is good, and has the size that was asked for
column_from-found : (before : ℕ) (kinds : List Kind) (offset size column : ℕ) (kind : Kind)
    → column_from before kinds offset size ≡ Some (column, kind)
    → list_all is_good kinds ≡ true → (is_good kind ≡ true) × (size ≡ width_of kind)
column_from-found before [] offset size column kind h good = cc
column_from-found before (first ∷ kinds) offset size column kind h good =
    grind (arith, and_parts, column_from-found (before + 1) kinds (offset - width_of first) size column kind)

pub column-fits : FoundColumnsFit
column-fits kinds = column_from-found 0 kinds

-- How groups are numbered, and what a block of rows has for a plan.
use Rattle.std.specs.Prelude.{◌≡◌, ℕ, ℤ, List, [], ◌∷◌, ◌++◌, Option, Some, slice_get}
use Rattle.std.specs.BTreeMap.{is_at}
use Rattle.std.specs.Map.{lookup}
use Rattle.std.specs.Ordering.{int_cmp}
use Rattle.rows.specs.declared.value.Value.{Value}
use Rattle.rows.specs.declared.value.Value.TheVariants.{Int, Octets}
use Rattle.plans.specs.declared.numbering.Numbering.{Numbering}
use Rattle.queries.specs.Order.{group_cmp}

-- ---- the numbers of groups

-- the number that is kept of a group: among those of one number each, or among the others
abbrev pub number_kept : List (ℤ × ℕ) → List (List Value × ℕ) → List Value → Option ℕ
number_kept singles others [] = lookup (is_at (group_cmp [])) others
number_kept singles others (Int number ∷ []) = lookup (is_at (int_cmp number)) singles
number_kept singles others (Octets bytes ∷ []) = lookup (is_at (group_cmp (Octets bytes ∷ []))) others
number_kept singles others (Int number ∷ next ∷ values) = lookup (is_at (group_cmp (Int number ∷ next ∷ values))) others
number_kept singles others (Octets bytes ∷ next ∷ values) = lookup (is_at (group_cmp (Octets bytes ∷ next ∷ values))) others

-- a group is not one of one number, so its number is among the others
abbrev pub IsOther : List Value → Type 0
IsOther key =
    (singles : List (ℤ × ℕ)) (others : List (List Value × ℕ)) → number_kept singles others key ≡ lookup (is_at (group_cmp key)) others

-- each key has its place as its number, and no other group has one
pub record IsNumbering (numbering : Numbering) : Type 0 where
  pub known : (n : ℕ) (key : List Value) → slice_get numbering.keys.items n ≡ Some key
      → number_kept numbering.singles.entries numbering.others.entries key ≡ Some n
  pub there : (n : ℕ) (key : List Value) → number_kept numbering.singles.entries numbering.others.entries key ≡ Some n
      → slice_get numbering.keys.items n ≡ Some key

-- there are more keys, behind those that were there
abbrev pub Extends : List (List Value) → List (List Value) → Type 0
Extends before after = (more : List (List Value)) × (after ≡ before ++ more)

-- a key that was there adds none
abbrev pub StaysIfKnown : List Value → List (List Value) → List (List Value) → Type 0
StaysIfKnown key before after = (n : ℕ) → slice_get before n ≡ Some key → after ≡ before

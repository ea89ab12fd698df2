-- Shapes to which columns are added: how many tables they have, which columns stay, and that they keep the limits.
use Rattle.std.proofs.Common.{◌≡◌, ◌≢◌, ℕ, suc, zero, ◌+◌, ◌<◌, ◌≤◌, Bool, true, false, cond, not, ◌&&◌, ◌==◌, List, [], ◌∷◌, ◌++◌, length}
use Rattle.std.proofs.Common.{take, append_assoc, nat_lt, Ok, Err, Option, None, Some, slice_get, refl, sym, ap, subst, ◌∙◌, inl, inr}
use Rattle.std.proofs.Common.{arith, length-append}
use Rattle.std.specs.List.{slice_set, AllByRecursion}
use Rattle.std.specs.Option.{unwrap_or}
use Rattle.std.specs.Result.{is_ok}
use Rattle.std.proofs.lemmas.Bool.{and_from, and_parts, cases_eq, eq-eqb}
use Rattle.std.proofs.lemmas.Bool.Decides.{nat_tests}
use Rattle.std.proofs.lemmas.List.Sums.{sum_by-append}
use Rattle.std.proofs.lemmas.List.Folds.{list_all-append}
use Rattle.std.proofs.lemmas.List.{take_at}
use Rattle.std.proofs.lemmas.Option.{slice_get_within, same_Some}
use Rattle.rows.specs.declared.entry.Entry.{Entry}
use Rattle.rows.specs.declared.entry.Entry.TheVariants.{Insert, Patch, Delete, AddColumn}
use Rattle.rows.specs.declared.faults.EntryFault.TheVariants.{WrongSize}
use Rattle.rows.specs.declared.kind.Kind.{Kind}
use Rattle.rows.specs.declared.value.Value.{Value}
use Rattle.rows.specs.Limits.{columns_max, row_width_max}
use Rattle.rows.specs.Shape.{Shape, width_of, is_good, row_width, kinds_in, AreColumns}
use Rattle.rows.specs.Values.{kind_of}
use Rattle.rows.specs.Entries.{has_room, addable, with_kind, shape_after_one, shape_after}
use Rattle.rows.specs.Laws.{TablesStay, ColumnsStay, RoomKeepsLimits, LimitsStay}

-- a row is its own
pub is_own : (table row : ℕ) → ((table == table) && (row == row)) ≡ true
is_own table row = and_from _ _ (eq-eqb table table refl) (eq-eqb row row refl)

-- a list in which one place was set
get-same : {X : Type 0} (list : List X) (n : ℕ) (x : X) → n < length list → slice_get (slice_set list n x) n ≡ Some x
get-same [] n x h = absurd (omega arith)
get-same (y ∷ list) zero x h = refl
get-same (y ∷ list) (suc n) x h = get-same list n x (omega arith)

get-other : {X : Type 0} (list : List X) (n k : ℕ) (x : X) → k ≢ n → slice_get (slice_set list n x) k ≡ slice_get list k
get-other [] n k x h = refl
get-other (y ∷ list) zero zero x h = absurd (h refl)
get-other (y ∷ list) zero (suc k) x h = refl
get-other (y ∷ list) (suc n) zero x h = refl
get-other (y ∷ list) (suc n) (suc k) x h = get-other list n k x (λ e. h (ap suc e))

length-slice_set : {X : Type 0} (list : List X) (n : ℕ) (x : X) → length (slice_set list n x) ≡ length list
length-slice_set [] n x = refl
length-slice_set (y ∷ list) zero x = refl
length-slice_set (y ∷ list) (suc n) x = ap suc (length-slice_set list n x)

-- an added column leaves the kinds of other tables
pub added-elsewhere : (shape : Shape) (table : ℕ) (default : Value) (t : ℕ) → t ≢ table
    → slice_get (shape_after_one shape (AddColumn table default)) t ≡ slice_get shape t
added-elsewhere shape table default t h = by (is_ok (addable (slice_get shape table) default))
  where
    by : (fits : Bool) → slice_get (cond fits (with_kind shape table (kind_of default)) shape) t ≡ slice_get shape t
    by true = get-other shape table t (kinds_in shape table ++ kind_of default ∷ []) h
    by false = refl

-- and makes the same of the kinds of its table, in whatever shape these are
abbrev pub kinds_with : Option (List Kind) → Value → Option (List Kind)
kinds_with None default = None
kinds_with (Some kinds) default = cond (has_room kinds (kind_of default)) (Some (kinds ++ kind_of default ∷ [])) (Some kinds)

pub added-here : (shape : Shape) (table : ℕ) (default : Value)
    → slice_get (shape_after_one shape (AddColumn table default)) table ≡ kinds_with (slice_get shape table) default
added-here shape table default = by (slice_get shape table) refl
  where
    by : (found : Option (List Kind)) → slice_get shape table ≡ found
        → slice_get (shape_after_one shape (AddColumn table default)) table ≡ kinds_with found default
    by None e = rw e e
    by (Some kinds) e = rw e (tested (has_room kinds (kind_of default)))
      where
        tested : (room : Bool)
            → slice_get (cond (is_ok {T = Unit {0}} (cond room (Ok tt) (Err WrongSize)))
            (slice_set shape table (kinds ++ kind_of default ∷ [])) shape) table
            ≡ cond room (Some (kinds ++ kind_of default ∷ [])) (Some kinds)
        tested true = get-same shape table (kinds ++ kind_of default ∷ []) (slice_get_within shape table kinds e)
        tested false = e

pub added-alike : (shape other : Shape) (table : ℕ) (default : Value) (t : ℕ) → slice_get other t ≡ slice_get shape t
    → slice_get (shape_after_one other (AddColumn table default)) t ≡ slice_get (shape_after_one shape (AddColumn table default)) t
added-alike shape other table default t e = elim (cases_eq t table) [
  | inl same ↦ rw same (
      added-here other table default
      ∙ ap (λ found. kinds_with found default) (ap (slice_get other) (sym same) ∙ e ∙ ap (slice_get shape) same)
      ∙ sym (added-here shape table default))
  | inr apart ↦ added-elsewhere other table default t apart ∙ e ∙ sym (added-elsewhere shape table default t apart)
]

-- how many tables there are
pub length-shape_after_one : (shape : Shape) (entry : Entry) → length (shape_after_one shape entry) ≡ length shape
length-shape_after_one shape (Insert table row bytes) = refl
length-shape_after_one shape (Patch table row offset bytes) = refl
length-shape_after_one shape (Delete table row) = refl
length-shape_after_one shape (AddColumn table default) = by (is_ok (addable (slice_get shape table) default))
  where
    by : (fits : Bool) → length (cond fits (with_kind shape table (kind_of default)) shape) ≡ length shape
    by true = length-slice_set shape table (kinds_in shape table ++ kind_of default ∷ [])
    by false = refl

pub length-shape_after : (shape : Shape) (entries : List Entry) → length (shape_after shape entries) ≡ length shape
length-shape_after shape [] = refl
length-shape_after shape (entry ∷ entries) =
    length-shape_after (shape_after_one shape entry) entries ∙ length-shape_after_one shape entry

pub tables-stay : TablesStay
tables-stay shape entries = length-shape_after shape entries

-- the columns that a table has stay, with others behind them
abbrev Behind : List Kind → List Kind → Type 0
Behind kinds others = (more : List Kind) × (others ≡ kinds ++ more)

nil-behind : (kinds : List Kind) → kinds ≡ kinds ++ []
nil-behind [] = refl
nil-behind (kind ∷ kinds) = ap (λ kinds. kind ∷ kinds) (nil-behind kinds)

behind-with : (found : Option (List Kind)) (default : Value) → Behind (unwrap_or found []) (unwrap_or (kinds_with found default) [])
behind-with None default = ([], refl)
behind-with (Some kinds) default = by (has_room kinds (kind_of default))
  where
    by : (room : Bool) → Behind kinds (unwrap_or (cond room (Some (kinds ++ kind_of default ∷ [])) (Some kinds)) [])
    by true = (kind_of default ∷ [], refl)
    by false = ([], nil-behind kinds)

behind-one : (shape : Shape) (entry : Entry) (table : ℕ) → Behind (kinds_in shape table) (kinds_in (shape_after_one shape entry) table)
behind-one shape (Insert at row bytes) table = ([], nil-behind (kinds_in shape table))
behind-one shape (Patch at row offset bytes) table = ([], nil-behind (kinds_in shape table))
behind-one shape (Delete at row) table = ([], nil-behind (kinds_in shape table))
behind-one shape (AddColumn at default) table = elim (cases_eq table at) [
  | inl same ↦ rw (same, added-here shape at default) (behind-with (slice_get shape at) default)
  | inr other ↦ ([], ap (λ found. unwrap_or found []) (added-elsewhere shape at default table other) ∙ nil-behind (kinds_in shape table))
]

behind-all : (shape : Shape) (entries : List Entry) (table : ℕ) → Behind (kinds_in shape table) (kinds_in (shape_after shape entries) table)
behind-all shape [] table = ([], nil-behind (kinds_in shape table))
behind-all shape (entry ∷ entries) table =
    let first = behind-one shape entry table in
    let others = behind-all (shape_after_one shape entry) entries table in
    (first.0 ++ others.0, others.1 ∙ ap (λ kinds. kinds ++ others.0) first.1 ∙ append_assoc (kinds_in shape table) first.0 others.0)

pub columns-stay : ColumnsStay
columns-stay shape entries table =
    let behind = behind-all shape entries table in
    ap (take (length (kinds_in shape table))) behind.1 ∙ take_at (kinds_in shape table) behind.0 (length (kinds_in shape table)) refl

-- a table to which a column was added is within the limits
pub room-parts : (kinds : List Kind) (kind : Kind) → has_room kinds kind ≡ true → (is_good kind ≡ true)
    × (length kinds < columns_max) × (row_width kinds + width_of kind ≤ row_width_max)
room-parts kinds kind h =
    let parts =
    and_parts (is_good kind && nat_lt (length kinds) columns_max) (not (nat_lt row_width_max (row_width kinds + width_of kind))) h in
    let first = and_parts (is_good kind) (nat_lt (length kinds) columns_max) parts.0 in
    (first.0, grind (arith, nat_tests), grind (arith, nat_tests))

pub room-keeps : RoomKeepsLimits
room-keeps kinds kind are h =
    let room = room-parts kinds kind h in
    record {
      some = omega (arith, are.some, length-append kinds (kind ∷ []));
      few = omega (arith, room.1, length-append kinds (kind ∷ []));
      good = list_all-append is_good kinds (kind ∷ []) ∙ and_from _ _ are.good (and_from _ _ room.0 refl);
      narrow = omega (arith, room.2, sum_by-append width_of kinds (kind ∷ []));
    }

each-at : (shape : Shape) (table : ℕ) (kinds : List Kind) → AllByRecursion AreColumns shape → slice_get shape table ≡ Some kinds
    → AreColumns kinds
each-at [] table kinds each e = absurd cc
each-at (first ∷ shape) zero kinds each e = subst AreColumns (same_Some first kinds e) each.0
each-at (first ∷ shape) (suc table) kinds each e = each-at shape table kinds each.1 e

each-set : (shape : Shape) (table : ℕ) (kinds : List Kind) → AllByRecursion AreColumns shape → AreColumns kinds
    → AllByRecursion AreColumns (slice_set shape table kinds)
each-set [] table kinds each are = tt
each-set (first ∷ shape) zero kinds each are = (are, each.1)
each-set (first ∷ shape) (suc table) kinds each are = (each.0, each-set shape table kinds each.1 are)

each-one : (shape : Shape) (entry : Entry) → AllByRecursion AreColumns shape → AllByRecursion AreColumns (shape_after_one shape entry)
each-one shape (Insert at row bytes) each = each
each-one shape (Patch at row offset bytes) each = each
each-one shape (Delete at row) each = each
each-one shape (AddColumn at default) each = by (slice_get shape at) refl
  where
    by : (found : Option (List Kind)) → slice_get shape at ≡ found
        → AllByRecursion AreColumns (cond (is_ok (addable found default)) (with_kind shape at (kind_of default)) shape)
    by None e = each
    by (Some kinds) e = tested (has_room kinds (kind_of default)) refl
      where
        tested : (room : Bool) → has_room kinds (kind_of default) ≡ room
            → AllByRecursion AreColumns
            (cond (is_ok {T = Unit {0}} (cond room (Ok tt) (Err WrongSize))) (with_kind shape at (kind_of default)) shape)
        tested true h =
            let made = room-keeps kinds (kind_of default) (each-at shape at kinds each e) h in
            each-set shape at (kinds_in shape at ++ kind_of default ∷ []) each
            (subst (λ found. AreColumns (unwrap_or found [] ++ kind_of default ∷ [])) (sym e) made)
        tested false h = each

each-all : (shape : Shape) (entries : List Entry) → AllByRecursion AreColumns shape → AllByRecursion AreColumns (shape_after shape entries)
each-all shape [] each = each
each-all shape (entry ∷ entries) each = each-all (shape_after_one shape entry) entries (each-one shape entry each)

pub limits-stay : LimitsStay
limits-stay shape entries are =
    let same = length-shape_after shape entries in
    record { some = omega (arith, same, are.some); few = omega (arith, same, are.few); each = each-all shape entries are.each }

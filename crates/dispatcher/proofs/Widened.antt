-- Queries that fit still fit when columns were added, and there are as many tables.
use Rattle.std.proofs.Common.{◌≡◌, ℕ, suc, zero, Bool, true, false, cond, List, [], ◌∷◌, ◌++◌, length, slice_get, slice_set, Option, None}
use Rattle.std.proofs.Common.{Some, Ok}
use Rattle.std.proofs.Common.{◌+◌, ◌<◌, ◌≤◌, drop, get_or, refl, sym, ap, subst, ◌∙◌}
use Rattle.std.proofs.lemmas.List.{drop_all, drop_more}
use Rattle.std.specs.Option.{unwrap_or}
use Rattle.std.specs.List.{AllByRecursion}
use Rattle.std.specs.Result.{is_ok}
use Rattle.rows.specs.declared.commit.Commit.{Commit}
use Rattle.rows.specs.declared.entry.Entry.{Entry}
use Rattle.rows.specs.declared.entry.Entry.TheVariants.{Insert, Patch, Delete, AddColumn}
use Rattle.rows.specs.declared.kind.Kind.{Kind}
use Rattle.rows.specs.Shape.{Shape, kinds_in}
use Rattle.rows.specs.Values.{kind_of}
use Rattle.rows.specs.Entries.{addable, with_kind, shape_after_one, shape_after}
use Rattle.rows.specs.Commits.{shape_after_commits}
use Rattle.rows.specs.Laws.{TablesStay}
use Rattle.queries.specs.declared.plan.Plan.{Plan}
use Rattle.queries.specs.Checking.{checked}
use Rattle.queries.specs.Laws.{PlanStillFits}

-- each of these plans fits
abbrev pub AreChecked : Shape → List Plan → Type 0
AreChecked shape plans = AllByRecursion (λ plan. checked shape plan ≡ Ok tt) plans

-- a shape parted at a table
record IsParted (shape : Shape) (table : ℕ) (kinds : List Kind) : Type 0 where
  pub front : Shape
  pub back : Shape
  pub whole : shape ≡ front ++ kinds ∷ back
  pub set : (other : List Kind) → slice_set shape table other ≡ front ++ other ∷ back

parted : (shape : Shape) (table : ℕ) (kinds : List Kind) → slice_get shape table ≡ Some kinds → IsParted shape table kinds
parted [] table kinds h = absurd cc
parted (first ∷ shape) zero kinds h =
    let same : first ≡ kinds = cc in
    record { front = []; back = shape; whole = ap (λ kinds. kinds ∷ shape) same; set = λ other. refl }
parted (first ∷ shape) (suc table) kinds h =
    let rest = parted shape table kinds h in
    record {
      front = first ∷ rest.front;
      back = rest.back;
      whole = ap (λ shape. first ∷ shape) rest.whole;
      set = λ other. ap (λ shape. first ∷ shape) (rest.set other);
    }

module _ (law : PlanStillFits) (plan : Plan) where
  checked-one : (shape : Shape) (entry : Entry) → checked shape plan ≡ Ok tt → checked (shape_after_one shape entry) plan ≡ Ok tt
  checked-one shape (Insert table row bytes) h = h
  checked-one shape (Patch table row offset bytes) h = h
  checked-one shape (Delete table row) h = h
  checked-one shape (AddColumn table default) h = by (slice_get shape table) refl (is_ok (addable (slice_get shape table) default)) refl
    where
      by : (found : Option (List Kind)) → slice_get shape table ≡ found → (fits : Bool)
          → is_ok (addable (slice_get shape table) default) ≡ fits
          → checked (cond fits (with_kind shape table (kind_of default)) shape) plan ≡ Ok tt
      by found e false f = h
      by None e true f =
          let none : is_ok (addable None default) ≡ true = ap (λ found. is_ok (addable found default)) (sym e) ∙ f in absurd cc
      by (Some kinds) e true f =
          let parts = parted shape table kinds e in
          let own : kinds_in shape table ≡ kinds = ap (λ found. unwrap_or found []) e in
          let wider : with_kind shape table (kind_of default) ≡ parts.front ++ (kinds ++ kind_of default ∷ []) ∷ parts.back =
          parts.set (kinds_in shape table ++ kind_of default ∷ [])
          ∙ ap (λ kinds. parts.front ++ (kinds ++ kind_of default ∷ []) ∷ parts.back) own in
          ap (λ shape. checked shape plan) wider
          ∙ law parts.front parts.back kinds (kind_of default) plan (ap (λ shape. checked shape plan) (sym parts.whole) ∙ h)

  checked-all : (shape : Shape) (entries : List Entry) → checked shape plan ≡ Ok tt → checked (shape_after shape entries) plan ≡ Ok tt
  checked-all shape [] h = h
  checked-all shape (entry ∷ entries) h = checked-all (shape_after_one shape entry) entries (checked-one shape entry h)

  checked-commits : (shape : Shape) (commits : List Commit) → checked shape plan ≡ Ok tt
      → checked (shape_after_commits shape commits) plan ≡ Ok tt
  checked-commits shape [] h = h
  checked-commits shape (commit ∷ commits) h =
      checked-commits (shape_after shape commit.entries) commits (checked-all shape commit.entries h)

-- queries that were checked are checked for what commits make of the columns
pub still-checked : PlanStillFits → (shape : Shape) (commits : List Commit) (plans : List Plan) → AreChecked shape plans
    → AreChecked (shape_after_commits shape commits) plans
still-checked law shape commits [] h = tt
still-checked law shape commits (plan ∷ plans) h = (checked-commits law plan shape commits h.0, still-checked law shape commits plans h.1)

-- how many tables there are
pub still-many : TablesStay → (shape : Shape) (commits : List Commit) → length (shape_after_commits shape commits) ≡ length shape
still-many law shape [] = refl
still-many law shape (commit ∷ commits) =
    still-many law (shape_after shape commit.entries) commits ∙ law shape commit.entries

-- what commits and others behind them make of the columns
pub shape-behind : (shape : Shape) (commits more : List Commit)
    → shape_after_commits shape (commits ++ more) ≡ shape_after_commits (shape_after_commits shape commits) more
shape-behind shape [] more = refl
shape-behind shape (commit ∷ commits) more = shape-behind (shape_after shape commit.entries) commits more

-- ---- one after the other

-- all fit exactly if those from an index on do
abbrev pub AreFitFrom : Shape → List Plan → ℕ → Type 0
AreFitFrom shape plans index =
    (AreChecked shape (drop index plans) → AreChecked shape plans) × (AreChecked shape plans → AreChecked shape (drop index plans))

pub fit-begins : (shape : Shape) (plans : List Plan) → AreFitFrom shape plans 0
fit-begins shape plans = (λ rest. rest, λ whole. whole)

-- the plan at an index is the first of those from there on
pub here-is : (plans : List Plan) (index : ℕ) (plan : Plan) → index < length plans → plan ≡ get_or plans index plan
    → drop index plans ≡ plan ∷ drop (index + 1) plans
here-is plans index plan within is =
    drop_more plans index plan within ∙ ap (λ (plan : Plan). plan ∷ drop (index + 1) plans) (sym is)

-- one more that fits
pub fit-next : (shape : Shape) (plans : List Plan) (index : ℕ) (plan : Plan) → drop index plans ≡ plan ∷ drop (index + 1) plans
    → checked shape plan ≡ Ok tt → AreFitFrom shape plans index → AreFitFrom shape plans (index + 1)
fit-next shape plans index plan here own so = (
  λ rest. so.0 (subst (λ (plans : List Plan). AreChecked shape plans) (sym here) (own, rest)),
  λ whole. (subst (λ (plans : List Plan). AreChecked shape plans) here (so.1 whole)).1,
)

-- or one that does not
pub not-fit : (shape : Shape) (plans : List Plan) (index : ℕ) (plan : Plan) → drop index plans ≡ plan ∷ drop (index + 1) plans
    → (checked shape plan ≡ Ok tt → ⊥) → AreFitFrom shape plans index → AreChecked shape plans → ⊥
not-fit shape plans index plan here apart so whole =
    apart (subst (λ (plans : List Plan). AreChecked shape plans) here (so.1 whole)).0

pub fit-ends : (shape : Shape) (plans : List Plan) (index : ℕ) → AreFitFrom shape plans index → length plans ≤ index
    → AreChecked shape plans
fit-ends shape plans index so past =
    so.0 (subst (λ (plans : List Plan). AreChecked shape plans) (sym (drop_all index plans past)) tt)

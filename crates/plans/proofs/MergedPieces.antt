-- What is computed of a table's pieces, one after the other, is what is computed of the table.
use Rattle.std.proofs.Common.{◌≡◌, ℕ, suc, ◌+◌, ◌-◌, ◌<◌, ◌≤◌, List, [], ◌∷◌, ◌++◌, length, take, get_or, set, refl, sym, ap, ◌∙◌}
use Rattle.std.proofs.Common.{subst, ⊎_elim, arith, length-append, Option, Some, Result, Ok, IfOk, IfSome}
use Rattle.std.proofs.lemmas.Bool.{cases_eq}
use Rattle.std.proofs.lemmas.List.{append_assoc, take_all, take_at, take-take}
use Rattle.std.proofs.lemmas.List.{get_or-take, get_or-set_same, get_or-set_other, length_push, length-set}
use Rattle.std.specs.declared.alloc.AllocError.{AllocError}
use Rattle.rows.specs.Tables.{Rows, Tables, rows_of}
use Rattle.store.specs.Lent.{rows_in}
use Rattle.plans.specs.declared.piecewise.PieceGroups.{PieceGroups}
use Rattle.queries.specs.declared.plan.Plan.{Plan}
use Rattle.queries.specs.Answers.{rows_among}
use Rattle.plans.specs.Partials.{rows_between}
use Rattle.plans.specs.Inner.Kept.{GroupList, GroupsAreKept, AreKept, AreWithin, opening_groups}
use Rattle.plans.specs.Inner.Pieces.{rows_of_pieces, PiecesAreScanned}
use Rattle.plans.specs.Inner.Ranges.{LooksAt, AreMerged}
use Rattle.plans.specs.Inner.Together.{ArePieces, IsOfPiece, MergesOn}
use Rattle.plans.proofs.Keeping.{opening-kept, rows_among-append}
use Rattle.plans.proofs.Parts.{AreWithin-add, kept-merged}
use Rattle.plans.proofs.Pieces.{all-scanned, pieces-within}
use Rattle.plans.proofs.Ranged.{get_or-last}

-- ---- one piece more

pub piece-merged : (tables : Tables) (plan : Plan) (pieces piece count more : ℕ) (first second new : GroupList)
    → PiecesAreScanned tables plan pieces piece count first
    → more ≡ length (rows_in (rows_of tables plan.table) pieces piece)
    → AreKept tables plan (rows_in (rows_of tables plan.table) pieces piece) more second
    → AreMerged plan.aggregates first second new → AreWithin (count + more) new
    → PiecesAreScanned tables plan pieces (piece + 1) (count + more) new
piece-merged tables plan pieces piece count more first second new scanned counts behind finds within =
    let rows : Rows = rows_of tables plan.table in
    let earlier : Rows = rows_of_pieces rows pieces piece in
    let here : Rows = rows_in rows pieces piece in
    let next : rows_of_pieces rows pieces (piece + 1) ≡ earlier ++ here =
    ap (rows_of_pieces rows pieces) {x = piece + 1} {y = suc piece} (omega arith) in
    let sizes = ap length next ∙ length-append earlier here in
    let before = scanned.count_is in
    record {
      count_is = omega (arith, sizes, before, counts);
      kept =
          subst (λ list. GroupsAreKept plan list (count + more) new)
          (sym (rows_among-append tables plan earlier here) ∙ ap (rows_among tables plan) (sym next))
          (kept-merged plan (rows_among tables plan earlier) (rows_among tables plan here) count more first second new scanned.kept behind
          finds within);
    }

-- ---- the plans on a table

-- a plan on this table has the groups of the pieces before one; what is kept of other plans stays
pub record Merges (tables : Tables) (plan : Plan) (table pieces piece count : ℕ) (old groups : GroupList) : Type 0 where
  pub kept : plan.table ≡ table → old ≡ opening_groups plan → PiecesAreScanned tables plan pieces piece count groups
  pub other : (plan.table ≡ table → ⊥) → groups ≡ old

module _ (tables : Tables) (plan : Plan) (table pieces : ℕ) where
  pub merges-init : (groups : GroupList) → Merges tables plan table pieces 0 0 groups groups
  merges-init groups = record {
    kept = λ on opening. record {
      count_is = refl;
      kept = subst (GroupsAreKept plan [] 0) (sym opening) (opening-kept plan);
    };
    other = λ off. refl;
  }

  pub merges-next : (piece count more : ℕ) (old groups second new : GroupList)
      → more ≡ length (rows_in (rows_of tables table) pieces piece)
      → (plan.table ≡ table → AreKept tables plan (rows_in (rows_of tables table) pieces piece) more second)
      → Merges tables plan table pieces piece count old groups
      → MergesOn plan table (count + more) groups second new
      → Merges tables plan table pieces (piece + 1) (count + more) old new
  merges-next piece count more old groups second new counts behind state merges = record {
    kept = λ on opening.
        piece-merged tables plan pieces piece count more groups second new (state.kept on opening)
        (counts ∙ ap (λ n. length (rows_in (rows_of tables n) pieces piece)) (sym on))
        (subst (λ n. AreKept tables plan (rows_in (rows_of tables n) pieces piece) more second) (sym on) (behind on))
        (merges.merged on) (merges.within on);
    other = λ off. merges.other off ∙ state.other off;
  }

  pub merges-within : (piece count : ℕ) (old groups : GroupList) → Merges tables plan table pieces piece count old groups
      → old ≡ opening_groups plan → plan.table ≡ table → AreWithin count groups
  merges-within piece count old groups state opening on = (state.kept on opening).kept.within

  -- all pieces were scanned, and the table has no more rows than this
  pub merges-end : (piece count most : ℕ) (old groups : GroupList) → 0 < pieces → piece ≡ pieces
      → length (rows_of tables table) ≤ most → Merges tables plan table pieces piece count old groups
      → LooksAt tables plan table 0 most old groups
  merges-end piece count most old groups some ends most_is state = record {
    kept = λ on opening. whole on (state.kept on opening);
    other = state.other;
  }
    where
      whole : plan.table ≡ table → PiecesAreScanned tables plan pieces piece count groups
          → GroupsAreKept plan (rows_between tables 0 most plan) (most - 0) groups
      whole on scanned =
          let rows : Rows = rows_of tables plan.table in
          let few : length rows ≤ most = subst (λ n. length (rows_of tables n) ≤ most) (sym on) most_is in
          let all = all-scanned tables plan pieces piece count groups some ends scanned in
          let counts = scanned.count_is in
          let fewer = pieces-within rows pieces piece in
          let size : count + (most - count) ≡ most - 0 = omega (arith, counts, fewer, few) in
          subst (λ list. GroupsAreKept plan (rows_among tables plan list) (most - 0) groups)
          (sym (take_all (most - 0) rows (omega (arith, few))))
          (record {
            found = all.found;
            within = subst (λ n. AreWithin n groups) size (AreWithin-add count (most - count) groups all.within);
          })

-- ---- the plans, one after the other

-- those from an index on are merged
pub record PlansMerge (plans : List Plan) (table rows : ℕ) (first second groups left : List GroupList) : Type 0 where
  pub sizes : length groups ≡ length first
  pub fewer : length left ≤ length second
  pub left_is : left ≡ take (length left) second
  pub before : (k : ℕ) (e : GroupList) → k < length left → get_or groups k e ≡ get_or first k e
  pub merged : (k : ℕ) (d : Plan) (e : GroupList) → length left ≤ k → k < length plans
      → MergesOn (get_or plans k d) table rows (get_or first k e) (get_or second k e) (get_or groups k e)

pub plans-init : (plans : List Plan) (table rows : ℕ) (first second : List GroupList) → length second ≡ length plans
    → PlansMerge plans table rows first second first second
plans-init plans table rows first second sizes = record {
  sizes = refl;
  fewer = omega arith;
  left_is = sym (take_all (length second) second (omega arith));
  before = λ k e lt. refl;
  merged = λ k d e le lt. absurd (omega (arith, le, lt, sizes));
}

module _ (plans : List Plan) (table rows : ℕ) (first second groups left rest : List GroupList) (other : GroupList)
    (state : PlansMerge plans table rows first second groups left) (popped : left ≡ rest ++ other ∷ []) where
  size : length left ≡ length rest + 1
  size = ap length popped ∙ length_push rest other

  -- the last of those that are left
  pub last-is : (e : GroupList) → get_or second (length rest) e ≡ other
  last-is e =
      let lt : length rest < length left = omega (arith, size) in
      sym (get_or-take (length left) second (length rest) e lt) ∙ ap (λ list. get_or list (length rest) e) (sym state.left_is)
      ∙ ap (λ list. get_or list (length rest) e) popped ∙ get_or-last rest other e

  rest-is : rest ≡ take (length rest) second
  rest-is =
      let whole : take (length rest) left ≡ rest = ap (take (length rest)) popped ∙ take_at rest (other ∷ []) (length rest) refl in
      let le : length rest ≤ length left = omega (arith, size) in
      sym whole ∙ ap (take (length rest)) state.left_is ∙ take-take (length rest) (length left) second le

  one-more : (k : ℕ) (after : List GroupList) → (k ≡ length rest → ⊥)
      → ((e : GroupList) → get_or after k e ≡ get_or groups k e) → (d : Plan) (e : GroupList) → length rest ≤ k → k < length plans
      → MergesOn (get_or plans k d) table rows (get_or first k e) (get_or second k e) (get_or after k e)
  one-more k after off same d e le lt =
      subst (MergesOn (get_or plans k d) table rows (get_or first k e) (get_or second k e)) (sym (same e))
      (state.merged k d e (omega (arith, size, le, off)) lt)

  -- its plan is on another table
  pub plans-skip : ((d : Plan) → (get_or plans (length rest) d).table ≡ table → ⊥) → PlansMerge plans table rows first second groups rest
  plans-skip elsewhere = record {
    sizes = state.sizes;
    fewer = let le = state.fewer in omega (arith, size, le);
    left_is = rest-is;
    before = λ k e lt. state.before k e (omega (arith, size, lt));
    merged = λ k d e le lt.
        ⊎_elim
        (λ same.
        subst (λ n. MergesOn (get_or plans n d) table rows (get_or first n e) (get_or second n e) (get_or groups n e)) (sym same)
        (record {
          merged = λ on. absurd (elsewhere d on);
          within = λ on. absurd (elsewhere d on);
          other = λ off. state.before (length rest) e (omega (arith, size));
        }))
        (λ off. one-more k groups off (λ e. refl) d e le lt)
        (cases_eq k (length rest));
  }

  -- the groups of its plan are merged with it
  pub plans-next : (plan : Plan) (new : GroupList) → length rest < length groups
      → ((d : Plan) → get_or plans (length rest) d ≡ plan) → plan.table ≡ table
      → ((e : GroupList) → AreMerged plan.aggregates (get_or groups (length rest) e) other new) → AreWithin rows new
      → PlansMerge plans table rows first second (set groups (length rest) new) rest
  plans-next plan new lt is here finds fits = record {
    sizes = length-set groups (length rest) new ∙ state.sizes;
    fewer = let le = state.fewer in omega (arith, size, le);
    left_is = rest-is;
    before = λ k e less.
        get_or-set_other groups (length rest) k new e (λ same. absurd (omega (arith, less, same)))
        ∙ state.before k e (omega (arith, size, less));
    merged = λ k d e le within.
        ⊎_elim
        (λ same.
        subst
        (λ n. MergesOn (get_or plans n d) table rows (get_or first n e) (get_or second n e) (get_or (set groups (length rest) new) n e))
        (sym same) (merges-here d e))
        (λ off.
        one-more k (set groups (length rest) new) off (λ e. get_or-set_other groups (length rest) k new e off) d e le within)
        (cases_eq k (length rest));
  }
    where
      put : (e : GroupList) → get_or (set groups (length rest) new) (length rest) e ≡ new
      put e = get_or-set_same groups (length rest) new e lt

      merges-here : (d : Plan) (e : GroupList)
          → MergesOn (get_or plans (length rest) d) table rows (get_or first (length rest) e) (get_or second (length rest) e)
          (get_or (set groups (length rest) new) (length rest) e)
      merges-here d e =
          subst
          (λ own. MergesOn own table rows (get_or first (length rest) e) (get_or second (length rest) e)
          (get_or (set groups (length rest) new) (length rest) e))
          (sym (is d))
          (subst (λ old. MergesOn plan table rows old (get_or second (length rest) e)
          (get_or (set groups (length rest) new) (length rest) e))
          (state.before (length rest) e (omega (arith, size)))
          (subst (λ behind. MergesOn plan table rows (get_or groups (length rest) e) behind
          (get_or (set groups (length rest) new) (length rest) e))
          (sym (last-is e))
          (subst (MergesOn plan table rows (get_or groups (length rest) e) other) (sym (put e))
          (record {
            merged = λ on. finds e;
            within = λ on. fits;
            other = λ off. absurd (off here);
          }))))

-- ---- the pieces, one after the other

-- one more is behind, and one less is left
pub one-behind : {X : Type 0} (done : List X) (x : X) (left rest all : List X) → rest ≡ x ∷ left → done ++ rest ≡ all
    → (done ++ x ∷ []) ++ left ≡ all
one-behind done x left rest all is whole = append_assoc done (x ∷ []) left ∙ ap (λ list. done ++ list) (sym is) ∙ whole

first-left : {X : Type 0} (done : List X) (x : X) (left : List X) (d : X) → get_or (done ++ x ∷ left) (length done) d ≡ x
first-left [] x left d = refl
first-left (y ∷ done) x left d = first-left done x left d

module _ (tables : Tables) (plans : List Plan) (table pieces : ℕ) (parts : List (Result (Option PieceGroups) AllocError))
    (are : ArePieces tables plans table pieces parts) where
  -- what is found of the first piece that is left
  pub piece-found : (done left rest : List (Result (Option PieceGroups) AllocError)) (part : Result (Option PieceGroups) AllocError)
      (found : PieceGroups) → rest ≡ part ∷ left → done ++ rest ≡ parts → part ≡ Ok (Some found)
      → IsOfPiece tables plans table pieces (length done) found
  piece-found done left rest part found is whole made =
      let all : done ++ part ∷ left ≡ parts = ap (λ list. done ++ list) (sym is) ∙ whole in
      let size = sym (ap length all) ∙ length-append done (part ∷ left) in
      let here : get_or parts (length done) part ≡ Ok (Some found) =
      ap (λ list. get_or list (length done) part) (sym all) ∙ first-left done part left part ∙ made in
      subst (λ result. IfOk result (λ found. IfSome found (IsOfPiece tables plans table pieces (length done)))) here
      (are (length done) part (omega (arith, size)))

-- the rows of one piece more
pub counts-next : (rows : Rows) (pieces piece count more : ℕ) → count ≡ length (rows_of_pieces rows pieces piece)
    → more ≡ length (rows_in rows pieces piece) → count + more ≡ length (rows_of_pieces rows pieces (piece + 1))
counts-next rows pieces piece count more is here =
    let next : rows_of_pieces rows pieces (piece + 1) ≡ rows_of_pieces rows pieces piece ++ rows_in rows pieces piece =
    ap (rows_of_pieces rows pieces) {x = piece + 1} {y = suc piece} (omega arith) in
    let sizes = ap length next ∙ length-append (rows_of_pieces rows pieces piece) (rows_in rows pieces piece) in
    omega (arith, sizes, is, here)

-- they are no more than the table has
pub counts-few : (rows : Rows) (pieces piece count more most : ℕ) → count ≡ length (rows_of_pieces rows pieces piece)
    → more ≡ length (rows_in rows pieces piece) → length rows ≤ most → count + more ≤ most
counts-few rows pieces piece count more most is here few =
    let next = counts-next rows pieces piece count more is here in
    let within = pieces-within rows pieces (piece + 1) in
    omega (arith, next, within, few)

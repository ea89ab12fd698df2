-- Plans that are equal are answered once.
use Rattle.std.proofs.Common.{◌≡◌, ℕ, suc, ◌+◌, ◌<◌, ◌≤◌, List, [], ◌∷◌, ◌++◌, length, map, get_or, refl, sym, ap, ◌∙◌, subst, arith}
use Rattle.std.proofs.Common.{⊎_elim, Ok, None}
use Rattle.std.specs.List.{AllByRecursion}
use Rattle.std.proofs.lemmas.Bool.{cases_lt}
use Rattle.std.proofs.lemmas.List.{get_or-map, get_or_default, length-map, length_push}
use Rattle.rows.specs.Tables.{Tables, shape_in}
use Rattle.queries.specs.declared.field.Field.{Field}
use Rattle.queries.specs.declared.plan.Plan.{Plan}
use Rattle.queries.specs.Answers.{plain_answer}
use Rattle.queries.specs.Checking.{checked}
use Rattle.plans.specs.Inner.Equals.{IsAt, IsPlaced, ArePlaced, AreAt}
use Rattle.plans.proofs.Fitting.{all-at}
use Rattle.plans.proofs.Ranged.{get_or-last}
use Rattle.plans.proofs.Tallied.{pushed}

-- what holds of each index holds of all
all-from : {X : Type 0} (P : X → Type 0) (xs : List X) → ((k : ℕ) (d : X) → k < length xs → P (get_or xs k d)) → AllByRecursion P xs
all-from P [] each = tt
all-from P (x ∷ xs) each = (each 0 x (omega arith), all-from P xs (λ k d lt. each (suc k) d (omega (arith, lt))))

-- lists of the same elements are the same
same-lists : {X : Type 0} (xs ys : List X) → length xs ≡ length ys → ((k : ℕ) (d : X) → k < length xs → get_or xs k d ≡ get_or ys k d)
    → xs ≡ ys
same-lists [] [] size each = refl
same-lists [] (y ∷ ys) size each = absurd (omega (arith, size))
same-lists (x ∷ xs) [] size each = absurd (omega (arith, size))
same-lists (x ∷ xs) (y ∷ ys) size each =
    let first : x ≡ y = each 0 x (omega arith) in
    let rest : xs ≡ ys = same-lists xs ys (omega (arith, size)) (λ k d lt. each (suc k) d (omega (arith, lt))) in
    λ i. first i ∷ rest i

-- ---- placing

pub placed-there : (plans : List Plan) (plan : Plan) (place : ℕ) → IsAt plans plan place → IsPlaced plans plan plans place
placed-there plans plan place here = record {
  here = here;
  grows = omega arith;
  stays = λ k d lt. refl;
  added = λ k d le lt. absurd (omega (arith, le, lt));
}

pub placed-behind : (plans : List Plan) (plan : Plan) (new : List Plan) → new ≡ plans ++ plan ∷ [] → IsPlaced plans plan new (length plans)
placed-behind plans plan new is =
    subst (λ list. IsPlaced plans plan list (length plans)) (sym is)
    (let size = length_push plans plan in record {
      here = record { within = omega (arith, size); same = λ d. get_or-last plans plan d };
      grows = omega (arith, size);
      stays = λ k d lt. pushed (λ n x. n < length plans → x ≡ get_or plans n d) plans plan (length plans) refl
          (λ n t less within. get_or_default plans n t d less) (λ within. absurd (omega (arith, within))) k d (omega (arith, lt)) lt;
      added = λ k d le lt.
          let same : k ≡ length plans = omega (arith, le, lt, size) in
          ap (λ n. get_or (plans ++ plan ∷ []) n d) same ∙ get_or-last plans plan d;
    })

-- ---- all plans

-- the plans before an index stand at their places
pub record ArePlacedSoFar (plans firsts : List Plan) (places : List ℕ) (i : ℕ) : Type 0 where
  pub sizes : length places ≡ i
  pub within : (p : ℕ) (n : ℕ) → p < i → get_or places p n < length firsts
  pub same : (p : ℕ) (n : ℕ) (d : Plan) → p < i → get_or firsts (get_or places p n) d ≡ get_or plans p d
  pub from : (j : ℕ) → j < length firsts → (p : ℕ) × (p < i) × ((d : Plan) → get_or firsts j d ≡ get_or plans p d)

pub placed-none : (plans : List Plan) (places : List ℕ) → places ≡ [] → ArePlacedSoFar plans [] places 0
placed-none plans places none = record {
  sizes = ap length none;
  within = λ p n lt. absurd (omega (arith, lt));
  same = λ p n d lt. absurd (omega (arith, lt));
  from = λ j lt. absurd (omega (arith, lt));
}

pub placed-next : (plans firsts : List Plan) (places : List ℕ) (i : ℕ) (plan : Plan) (new : List Plan) (place : ℕ)
    → ArePlacedSoFar plans firsts places i → i < length plans → ((d : Plan) → get_or plans i d ≡ plan)
    → IsPlaced firsts plan new place → ArePlacedSoFar plans new (places ++ place ∷ []) (i + 1)
placed-next plans firsts places i plan new place state lt is put = record {
  sizes = length_push places place ∙ ap (λ n. n + 1) state.sizes;
  within = λ p n less.
      pushed (λ q m. m < length new) places place i state.sizes
      (λ q m before. let old = state.within q m before in let grows = put.grows in omega (arith, old, grows)) put.here.within p n less;
  same = λ p n d less.
      pushed (λ q m. (e : Plan) → get_or new m e ≡ get_or plans q e) places place i state.sizes
      (λ q m before e. put.stays (get_or places q m) e (state.within q m before) ∙ state.same q m e before)
      (λ e. put.here.same e ∙ sym (is e)) p n less d;
  from = λ j within.
      ⊎_elim
      (λ before. let old = state.from j before in (old.0, omega (arith, old.1), λ d. put.stays j d before ∙ old.2 d))
      (λ behind. (i, omega arith, λ d. put.added j d behind within ∙ sym (is d)))
      (cases_lt j (length firsts));
}

pub placed-all : (plans firsts : List Plan) (places : List ℕ) (i : ℕ) → ArePlacedSoFar plans firsts places i → i ≤ length plans
    → length plans ≤ i → ArePlaced plans firsts places
placed-all plans firsts places i state le end = record {
  sizes = let size = state.sizes in omega (arith, size, le, end);
  within = λ p n lt. state.within p n (omega (arith, lt, end));
  same = λ p n d lt. state.same p n d (omega (arith, lt, end));
  from = λ j lt. let old = state.from j lt in (old.0, omega (arith, old.1, le), old.2);
}

-- ---- what is told of the plans once is told of all

module _ (plans firsts : List Plan) (places : List ℕ) (are : ArePlaced plans firsts places) where
  pub checked-once : (tables : Tables) → AllByRecursion (λ plan. checked (shape_in tables) plan ≡ Ok tt) plans
      → AllByRecursion (λ plan. checked (shape_in tables) plan ≡ Ok tt) firsts
  checked-once tables all =
      all-from (λ plan. checked (shape_in tables) plan ≡ Ok tt) firsts
      (λ j d lt.
      let one = are.from j lt in
      subst (λ plan. checked (shape_in tables) plan ≡ Ok tt) (sym (one.2 d))
      (all-at (λ plan. checked (shape_in tables) plan ≡ Ok tt) plans all one.0 d one.1))

  pub answers-once : (tables : Tables) (answers copies : List (List (List Field))) → answers ≡ map (plain_answer tables) firsts
      → AreAt answers places copies → copies ≡ map (plain_answer tables) plans
  answers-once tables answers copies is told =
      same-lists copies (map (plain_answer tables) plans) size
      (λ k d lt.
      let here : k < length plans = omega (arith, lt, told.sizes, are.sizes) in
      let place : ℕ = get_or places k 0 in
      let any : Plan = record { table = 0; join = None; conditions = []; groups = []; aggregates = [] } in
      told.each k 0 d (omega (arith, lt, told.sizes)) ∙ ap (λ list. get_or list place d) is
      ∙ get_or-map (plain_answer tables) firsts place any d (are.within k 0 here)
      ∙ ap (plain_answer tables) (are.same k 0 any here)
      ∙ sym (get_or-map (plain_answer tables) plans k any d here))
    where
      size : length copies ≡ length (map (plain_answer tables) plans)
      size = told.sizes ∙ are.sizes ∙ sym (length-map plans (plain_answer tables))

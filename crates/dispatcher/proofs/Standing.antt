-- What the fields of a replica's core say of its tables, of its batch, and of the frames that it keeps.
use Rattle.std.proofs.Common.{◌≡◌, ℕ, ◌<◌, ◌≤◌, Bool, true, false, cond, List, [], length, Option, Some, slice_index, nat_le}
use Rattle.std.proofs.Common.{refl, sym, ap, subst, ◌∙◌, inl, inr, arith}
use Rattle.std.specs.Prelude.{None, IfSome}
use Rattle.std.specs.Cmp.Lexicographic.{pointwise}
use Rattle.std.proofs.lemmas.Bool.{cases_lt, cond-false, ltb-true, ltb-false, le-ltb}
use Rattle.std.proofs.lemmas.List.{get_or_past}
use Rattle.rows.specs.Shape.{Shape}
use Rattle.rows.specs.Tables.{Tables}
use Rattle.intake.specs.Known.{is_known}
use Rattle.intake.specs.Kept.{AreAllKept, AreKeptFrom}
use Rattle.intake.specs.Laws.{NoneLackingIsComplete}
use Rattle.intake.specs.State.{Arrivals, known_of}
use Rattle.intake.specs.Steps.{lacking}
use Rattle.dispatcher.specs.State.{Fetched, no_pieces}
use Rattle.dispatcher.specs.Protocol.{by_image, bases_at, first_version, first_counts}
use Rattle.dispatcher.specs.declared.replica_core.ReplicaCore.TheInside.{Inside}
use Rattle.dispatcher.specs.Inner.Invariant.{replica_of, GoesOn, IsCore}
use Rattle.dispatcher.proofs.Lists.{pointwise-le, pointwise-length, pointwise-same}

-- ---- the tables

-- a replica that is whole is seen with as many tables as names
pub seen-many : {S Place Fault : Type 0} (is_whole : S → Bool) (tables : S → Tables) (base_shape : S → Shape) (a : Inside S Place Fault)
    → IsCore is_whole tables base_shape a → a.broken ≡ false → length (replica_of tables base_shape a).tables ≡ length a.schema
seen-many is_whole tables base_shape a is whole =
    ap (λ (b : Bool). length (cond b [] (tables a.store))) whole ∙ is.many whole

-- and with the pieces that it keeps
pub seen-pieces : {S Place Fault : Type 0} (tables : S → Tables) (base_shape : S → Shape) (a : Inside S Place Fault) → a.broken ≡ false
    → (replica_of tables base_shape a).pieces ≡ a.pieces
seen-pieces tables base_shape a whole = ap (λ (b : Bool). cond b (no_pieces a.pieces.base) a.pieces) whole

-- ---- by image or not

pub is-by-image : (version : ℕ) (fetched : Fetched) → by_image version fetched ≡ true → version < fetched.base
is-by-image version fetched h = ltb-true version fetched.base h

pub not-by-image : (version : ℕ) (fetched : Fetched) → fetched.base ≤ version → by_image version fetched ≡ false
not-by-image version fetched h = le-ltb version fetched.base h

-- no base is above what the batch catches up from
pub bases-first : (version : ℕ) (applied : List ℕ) (fetched : Fetched) (worker : ℕ)
    → slice_index (bases_at version fetched) worker ≤ slice_index (first_counts version applied fetched) worker
bases-first version applied fetched worker = by (by_image version fetched)
  where
    by : (image : Bool) → slice_index (cond image fetched.lows []) worker ≤ slice_index (cond image fetched.lows applied) worker
    by true = omega arith
    by false = omega arith

-- ---- the frames

module _ (law : NoneLackingIsComplete) (all : List Arrivals) (bases counts : List ℕ) (many : length counts ≡ length all)
    (complete : lacking all bases counts ≡ None) where
  -- each frame from the bases to before the counts is known
  pub all-known : (worker seq : ℕ) → slice_index bases worker ≤ seq → seq < slice_index counts worker
      → is_known (known_of all worker) seq ≡ true
  all-known worker seq above below = elim (cases_lt worker (length all)) [
    | inl within ↦ (law all bases counts).0 complete worker within seq above below
    | inr past ↦
        let none : slice_index counts worker ≡ 0 = get_or_past counts worker 0 (omega (arith, past, many)) in
        absurd (omega (arith, below, none))
  ]

  -- and kept, from lows on below which no base is, where each known one from its first on is
  pub all-kept : (firsts lows : List ℕ) → AreKeptFrom all firsts → ((worker : ℕ) → slice_index firsts worker ≤ slice_index lows worker)
      → ((worker : ℕ) → slice_index bases worker ≤ slice_index lows worker) → AreAllKept all lows counts
  all-kept firsts lows kept on above worker seq low high =
      kept worker seq (omega (arith, on worker, low)) (all-known worker seq (omega (arith, above worker, low)) high)

-- ---- what was fetched

-- what is known of what is there
pub of-some : {A : Type 0} (P : A → Type 0) (found : Option A) (it : A) → found ≡ Some it → IfSome found P → P it
of-some {A} P found it e h = subst (λ (found : Option A). IfSome found P) e h

pub of-none : {A : Type 0} (P : A → Type 0) (found : Option A) → found ≡ None → IfSome found P
of-none {A} P found e = subst (λ (found : Option A). IfSome found P) (sym e) tt

pub to-some : {A : Type 0} (P : A → Type 0) (found : Option A) (it : A) → found ≡ Some it → P it → IfSome found P
to-some {A} P found it e h = subst (λ (found : Option A). IfSome found P) (sym e) h

-- its base is not above its version
pub base-within : (version : ℕ) (applied : List ℕ) (fetched : Fetched) → GoesOn version applied fetched → fetched.base ≤ fetched.version
base-within version applied fetched goes = by (by_image version fetched) refl goes.version_on
  where
    by : (image : Bool) → by_image version fetched ≡ image → cond image fetched.base version ≤ fetched.version
        → fetched.base ≤ fetched.version
    by true e on = on
    by false e on = omega (arith, ltb-false version fetched.base e)

-- neither is the version at which the replica was
pub version-within : (version : ℕ) (applied : List ℕ) (fetched : Fetched) → GoesOn version applied fetched → version ≤ fetched.version
version-within version applied fetched goes = by (by_image version fetched) refl goes.version_on
  where
    by : (image : Bool) → by_image version fetched ≡ image → cond image fetched.base version ≤ fetched.version
        → version ≤ fetched.version
    by true e on = omega (arith, ltb-true version fetched.base e)
    by false e on = on

-- the applied frames are not more than those fetched
pub applied-within : (version : ℕ) (applied : List ℕ) (fetched : Fetched) → GoesOn version applied fetched → (worker : ℕ)
    → slice_index applied worker ≤ slice_index fetched.counts worker
applied-within version applied fetched goes worker = omega (
  arith,
  pointwise-le applied (first_counts version applied fetched) worker goes.lows_on,
  pointwise-le (first_counts version applied fetched) fetched.counts worker goes.counts_on,
)

pub counts-many : (version : ℕ) (applied : List ℕ) (fetched : Fetched) → GoesOn version applied fetched
    → length fetched.counts ≡ length applied
counts-many version applied fetched goes =
    sym (pointwise-length applied (first_counts version applied fetched) goes.lows_on
    ∙ pointwise-length (first_counts version applied fetched) fetched.counts goes.counts_on)

-- once the replica is at that version, what was fetched goes on from there
pub caught-goes : (version : ℕ) (applied : List ℕ) (fetched : Fetched) → GoesOn version applied fetched
    → GoesOn fetched.version fetched.counts fetched
caught-goes version applied fetched goes =
    let own : by_image fetched.version fetched ≡ false =
    not-by-image fetched.version fetched (base-within version applied fetched goes) in
    let first : first_counts fetched.version fetched.counts fetched ≡ fetched.counts =
    cond-false (by_image fetched.version fetched) fetched.lows fetched.counts own in
    let version_is : first_version fetched.version fetched ≡ fetched.version =
    cond-false (by_image fetched.version fetched) fetched.base fetched.version own in
    record {
      version_on = omega (arith, version_is);
      lows_on = subst (λ (counts : List ℕ). pointwise nat_le fetched.counts counts ≡ true) (sym first) (pointwise-same fetched.counts);
      counts_on = subst (λ (counts : List ℕ). pointwise nat_le counts fetched.counts ≡ true) (sym first) (pointwise-same fetched.counts);
    }

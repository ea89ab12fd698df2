-- Where the Head does not go by image, what is applied is what it goes on from.
use Rattle.std.proofs.Common.{◌≡◌, ℕ, ◌≤◌, Bool, true, false, cond, ◌&&◌, ◌==◌, nat_le, nat_lt, List, length, refl, sym, ap, ◌∙◌, arith}
use Rattle.std.specs.Cmp.Lexicographic.{pointwise}
use Rattle.std.proofs.lemmas.Bool.{le-leb, le-ltb, eq-eqb}
use Rattle.wire.specs.declared.head.Head.{Head}
use Rattle.dispatcher.specs.Inner.Invariant.{replica_of}
use Rattle.dispatcher.specs.State.{Replica}
use Rattle.dispatcher.specs.Steps.{goes_on}
use Rattle.dispatcher.proofs.Lists.{pointwise-same}
use Rattle.dispatcher.proofs.replica_core.ReplicaCore.goes_on.Goals as goal

own-goes : (r : Replica) (head : Head) → length head.counts ≡ r.workers → head.base ≤ r.version → r.version ≤ head.version
    → pointwise nat_le r.applied head.counts ≡ goes_on r head
own-goes r head many below up = sym (
    all (length head.counts == r.workers) (nat_lt r.version head.base) (pointwise nat_le r.applied r.applied)
    (eq-eqb (length head.counts) r.workers many) (le-ltb r.version head.base below) (le-leb r.version head.version up)
    (pointwise-same r.applied)
    )
  where
    all : (many image same : Bool) → many ≡ true → image ≡ false → nat_le r.version head.version ≡ true → same ≡ true
        → (many && nat_le (cond image head.base r.version) head.version
        && pointwise nat_le r.applied (cond image head.lows r.applied)
        && pointwise nat_le (cond image head.lows r.applied) head.counts)
        ≡ pointwise nat_le r.applied head.counts
    all many image same e f g h = rw (e, f, g, pointwise-same r.applied) refl

pub returns-then-head-self-2 : goal.returns-then-head-self-2
returns-then-head-self-2 g c =
    let a = c.self.inside in
    let replica = replica_of g.S.Store.tables g.S.Store.base_shape a in
    let counts = ap (λ (l : List ℕ). length l) c.as_slice.ensures.counts in
    let many : length c.args.head.now.counts ≡ a.workers = omega (arith, counts, c.if-as_slice-self.false) in
    c.are_within-then-head-self-2.ensures
    ∙ rw (← c.self.view_is) (own-goes replica c.args.head.now many (omega (arith, c.if-head-self.false))
    (omega (arith, c.if-head-self-2.true)))

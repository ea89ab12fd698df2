-- A step of the world leaves as many workers and replicas, and no replica makes more requests than datagrams are sent.
use Rattle.std.proofs.Common.{Bool, ◌≡◌, ℕ, zero, suc, ◌+◌, ◌≤◌, List, [], ◌∷◌, ◌++◌, length, drop, Option, None, Some, IfSome}
use Rattle.std.proofs.Common.{refl, sym, ap, subst, ◌∙◌, arith}
use Rattle.std.specs.List.{slice_get, AllByRecursion}
use Rattle.std.proofs.lemmas.List.{append-nil, length-append, length-set}
use Rattle.rows.specs.declared.commit.Commit.{Commit}
use Rattle.mvcc.specs.Transaction.{Transaction}
use Rattle.dispatcher.specs.State.{Replica}
use Rattle.script.specs.declared.event.Event.{Event}
use Rattle.script.specs.declared.output.Output.{Output}
use Rattle.script.specs.declared.setup.Setup.{Setup}
use Rattle.world.specs.Cores.{Cores}
use Rattle.world.specs.Steps.{World, Member, fresh_from, opening_world, with_member}
use Rattle.world.specs.Allowed.{MayHappen}
use Rattle.world.specs.Standing.{world_of, members_of}
use Rattle.world.specs.Inner.Invariant.{IsReady, IsRequested, CoresAreKept}
use Rattle.world.proofs.Slots.{all_at, all_set, all_weaker}
use Rattle.world.proofs.WorldMoves.{ask_bytes, new_batch, renewed_batch, Change, Move, restarts, sends, asks, renews, becomes}
use Rattle.world.proofs.WorldMoves.{step-moves}

pub record Counts (old : World) (answer : Output × World) : Type 0 where
  pub schema : answer.1.primary.schema ≡ old.primary.schema
  pub workers : answer.1.primary.workers ≡ old.primary.workers
  pub members : length answer.1.members ≡ length old.members
  pub requested : IsRequested old → IsRequested answer.1

-- ---- the moves

module _ (w : World) where
  -- the replicas stay, and datagrams are sent
  counts_sent : (new : World) (output : Output) (more : List (List ℕ))
      → (new.primary.schema ≡ w.primary.schema) × (new.primary.workers ≡ w.primary.workers)
      → new.members ≡ w.members → new.sent ≡ w.sent ++ more → Counts w (output, new)
  counts_sent new output more setup members sent = record {
    schema = setup.0;
    workers = setup.1;
    members = ap length members;
    requested = λ requested. subst (AllByRecursion (λ (m : Member). m.protocol.request ≤ length new.sent)) (sym members)
        (all_weaker _ _ w.members (λ m within. omega (arith, length-append w.sent more, ap length sent)) requested);
  }

  -- nothing of the replicas and the datagrams changes
  counts_same : (new : World) (output : Output) → (new.primary.schema ≡ w.primary.schema) × (new.primary.workers ≡ w.primary.workers)
      → new.members ≡ w.members → new.sent ≡ w.sent
      → Counts w (output, new)
  counts_same new output setup members sent = counts_sent new output [] setup members (sent ∙ sym (append-nil w.sent))

  -- one replica changes, and makes no more requests than datagrams are sent
  counts_member : (i : ℕ) (m new : Member) (output : Output) (more : List (List ℕ)) → slice_get w.members i ≡ Some m
      → new.protocol.request ≤ m.protocol.request + length more
      → Counts w (output, record (with_member w new) { sent = w.sent ++ more })
  counts_member i m new output more here within = record {
    schema = refl;
    workers = refl;
    members = length-set w.members new.protocol.number new;
    requested = λ requested.
        let before = all_at _ w.members i m here requested in
        let sent = length-append w.sent more in
        all_set _ w.members new.protocol.number new (omega arith)
        (all_weaker _ _ w.members (λ other below. omega arith) requested);
  }

  counts_stays : (i : ℕ) (m new : Member) (output : Output) → slice_get w.members i ≡ Some m → new.protocol.request ≤ m.protocol.request
      → Counts w (output, with_member w new)
  counts_stays i m new output here same =
      subst (λ (sent : List (List ℕ)). Counts w (output, record (with_member w new) { sent = sent })) (append-nil w.sent)
      (counts_member i m new output [] here (omega arith))

-- a replica that does not ask makes no request
change-requests : (w : World) (event : Event) (i : ℕ) (m : Member) (output : Output) (new : Member) → Change w event i m output new
    → new.protocol.request ≤ m.protocol.request
change-requests w event i m output new (restarts boot is never) = omega arith
change-requests w event i m output new other = omega arith

pub move-counts : (w : World) (event : Event) (output : Output) (new : World) → Move w event output new → Counts w (output, new)
move-counts w event output new (sends answer more plain sent) = counts_sent w new answer more (refl, refl) refl refl
move-counts w event output new (asks i m here none) =
    counts_member w i m (new_batch w m) _ (ask_bytes m (m.protocol.request + 1) ∷ []) here (omega arith)
move-counts w event output new (renews i m plans fetched is here has) =
    counts_member w i m (renewed_batch m plans) _ (ask_bytes m (m.protocol.request + 1) ∷ []) here (omega arith)
move-counts w event output new (becomes i m after answer here change) =
    counts_stays w i m after answer here (change-requests w event i m answer after change)
move-counts w event output new other = counts_same w new output (refl, refl) refl refl

pub step-counts : (w : World) (event : Event) (output : Output) (new : World) → MayHappen w event output new → Counts w (output, new)
step-counts w event output new may = move-counts w event output new (step-moves w event output new may)

-- ---- the beginning

none_asked : (workers number count : ℕ) → AllByRecursion (λ (m : Member). m.protocol.request ≤ 0) (fresh_from workers number count)
none_asked workers number zero = tt
none_asked workers number (suc count) = (omega arith, none_asked workers (suc number) count)

pub opening-requested : (setup : Setup) (durable : List Commit) (stopped : Bool) → IsRequested (opening_world setup durable stopped)
opening-requested setup durable stopped = none_asked setup.workers 0 setup.replicas

-- ---- the parts

members-length : (replicas : List Replica) (boots : List (List ℕ)) (asked_at : List ℕ)
    → length (members_of replicas boots asked_at) ≡ length replicas
members-length [] boots asked_at = refl
members-length (r ∷ replicas) boots asked_at = ap suc (members-length replicas (drop 1 boots) (drop 1 asked_at))

-- the world has as many replicas
pub as-many : (p : Cores) → length (world_of p).members ≡ length p.replicas
as-many p = members-length p.replicas p.boots p.asked_at

requests-made : (replicas : List Replica) (boots : List (List ℕ)) (asked_at : List ℕ) (count : ℕ)
    → AllByRecursion (λ (m : Member). m.protocol.request ≤ count) (members_of replicas boots asked_at)
    → AllByRecursion (λ (r : Replica). r.request ≤ count) replicas
requests-made [] boots asked_at count all = tt
requests-made (r ∷ replicas) boots asked_at count all =
    (all.0, requests-made replicas (drop 1 boots) (drop 1 asked_at) count all.1)

snapshots-known : (durable : ℕ) (transactions : List (Option Transaction))
    → ((i : ℕ) (draft : Transaction) → slice_get transactions i ≡ Some (Some draft) → draft.snapshot ≤ durable)
    → AllByRecursion (λ slot. IfSome slot (λ draft. draft.snapshot ≤ durable)) transactions
snapshots-known durable [] are = tt
snapshots-known durable (None ∷ slots) are = (tt, snapshots-known durable slots (λ i draft here. are (suc i) draft here))
snapshots-known durable (Some draft ∷ slots) are =
    (are 0 draft refl, snapshots-known durable slots (λ i other here. are (suc i) other here))

-- the parts of a world are ready for its calls
pub kept-ready : (p : Cores) → CoresAreKept p → IsReady p
kept-ready p kept = record {
  setup_is = kept.sound.setup_is;
  workers_some = kept.sound.primary_is.workers_some;
  workers_few = kept.sound.primary_is.workers_few;
  whole = kept.undamaged.whole;
  kept = kept.journal;
  boots_there = kept.sound.boots_there;
  asked_there = kept.sound.asked_there;
  few = kept.sound.few;
  snapshots = snapshots-known (length p.primary.durable) p.transactions kept.sound.transactions_are;
  requests = requests-made p.replicas p.boots p.asked_at (length p.sent) kept.requested;
}

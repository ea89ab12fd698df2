-- Each step of a fresh world leaves one, and a report that it answers is that of the batch of the replica that ran.
use Rattle.std.proofs.Common.{◌≡◌, ℕ, ◌+◌, ◌≤◌, true, List, [], ◌∷◌, ◌++◌, length, Some, None, refl, sym, ap, subst, ◌∙◌, arith}
use Rattle.std.specs.List.{slice_get, slice_set, AllByRecursion}
use Rattle.std.proofs.lemmas.Option.{none-some, same_Some}
use Rattle.rows.specs.declared.commit.Commit.{Commit}
use Rattle.queries.specs.declared.plan.Plan.{Plan}
use Rattle.dispatcher.specs.State.{Batch, Fetched}
use Rattle.dispatcher.specs.Protocol.{fetched_by}
use Rattle.script.specs.Events.{IsPossible}
use Rattle.script.specs.declared.event.Event.{Event}
use Rattle.script.specs.declared.event.Event.TheVariants as events
use Rattle.script.specs.declared.output.Output.{Output}
use Rattle.script.specs.declared.output.Output.TheVariants as outputs
use Rattle.world.specs.Outputs.{of_commit}
use Rattle.world.specs.Theorem.{SaysRows}
use Rattle.world.specs.Steps.{World, Member, KnownPieces, none_known, with_member, caught_up}
use Rattle.world.specs.Allowed.{MayHappen}
use Rattle.world.specs.Inner.Fresh.{IsFreshBatch, IsFreshMember, Fresh, HasBoot}
use Rattle.world.specs.Inner.StepLaws.{StepLaws}
use Rattle.world.proofs.Committing.{commit-numbered}
use Rattle.world.proofs.Lists.{get-set_same}
use Rattle.world.proofs.Restarts.{never-had, Fresh-restarted}
use Rattle.world.proofs.Fresh.{Fresh-transactions, Fresh-committed, Fresh-flushed, Fresh-based, Fresh-stopped, Fresh-started, Fresh-sent}
use Rattle.world.proofs.Fresh.{Fresh-member, Follows, alike, moved}
use Rattle.world.proofs.FreshDatagrams.{ask-fresh, sent-fresh, fetched-fresh}
use Rattle.world.proofs.WorldMoves.{ask_bytes, new_batch, renewed_batch, IsSilent, commit-silent, Change, hears, opens, fetches, reports}
use Rattle.world.proofs.WorldMoves.{moves, breaks, restarts, Move, idle, dumps, begins, changes, ends, refuses, commits, flushes, bases}
use Rattle.world.proofs.WorldMoves.{stops, starts, sends, asks, renews, becomes, step-moves}

-- what a step is to be
pub record Serves (old : World) (event : Event) (answer : Output × World) : Type 0 where
  pub fresh : Fresh answer.1
  pub rows : SaysRows old.primary.durable old event answer.0

no-rows : (list : List Commit) (old : World) (event : Event) (output : Output) → IsSilent output → SaysRows list old event output
no-rows list old event (outputs.Report text) h = absurd h
no-rows list old event (outputs.Dump text) h = absurd h
no-rows list old event other h = tt

-- ---- one replica

-- a new batch asks at what is durable now, and no Head of its request was sent
new-follows : (w : World) (m : Member) → m.protocol.version ≤ length w.primary.durable → Follows w.primary.durable m (new_batch w m)
new-follows w m below = record {
  number_is = refl;
  below = below;
  boots_are = refl;
  boot_is = refl;
  batch_is =
      λ batch has. subst (IsFreshBatch w.primary.durable m.protocol.version (length w.primary.durable)) (same_Some _ batch has)
      (record { asked = omega arith; fetched_is = λ fetched this. absurd (none-some fetched this) });
  asked = omega arith;
  heads = λ request version head. let asked = head.asked in record {
    asked = omega arith;
    above = λ batch has same. absurd (omega arith);
    on = λ batch has none same. absurd (omega arith);
  };
}

-- the version that was fetched for a batch is given up, and no Head of the new request was sent
renewed-follows : (w : World) (m : Member) (number : ℕ) (plans : List Plan) (fetched : Fetched)
    → IsFreshMember w.primary.durable number m → m.protocol.batch ≡ Some (record { plans = plans; fetched = Some fetched })
    → Follows w.primary.durable m (renewed_batch m plans)
renewed-follows w m number plans fetched is has = record {
  number_is = refl;
  below = is.below;
  boots_are = refl;
  boot_is = refl;
  batch_is = λ batch now. subst (IsFreshBatch w.primary.durable m.protocol.version m.asked_at) (same_Some _ batch now)
      (record { asked = (is.batch_is _ has).asked; fetched_is = λ fetched this. absurd (none-some fetched this) });
  asked = omega arith;
  heads = λ request version head. let asked = head.asked in record {
    asked = omega arith;
    above = λ batch now same. absurd (omega arith);
    on = λ batch now none same. absurd (omega arith);
  };
}

-- the batch is over, at the version that was fetched for it
done-follows : (w : World) (i : ℕ) (m : Member) (fetched : Fetched) → fetched.version ≤ length w.primary.durable
    → Follows w.primary.durable m (caught_up m fetched None)
done-follows w i m fetched below = record {
  number_is = refl;
  below = below;
  boots_are = refl;
  boot_is = refl;
  batch_is = λ batch has. absurd (none-some batch has);
  asked = omega arith;
  heads = λ request other head. record {
    asked = head.asked;
    above = λ batch has same. absurd (none-some batch has);
    on = λ batch has none same. absurd (none-some batch has);
  };
}

-- a version is fetched for the batch
head-follows : (durable : List Commit) (number : ℕ) (m : Member) (plans : List Plan) (pieces : KnownPieces) (came : Fetched)
    → IsFreshMember durable number m → m.protocol.batch ≡ Some (record { plans = plans; fetched = None })
    → (m.protocol.version ≤ came.version) × (m.asked_at ≤ came.version) × (came.version ≤ length durable)
    → Follows durable m (record m {
      pieces = pieces;
      protocol = record m.protocol { batch = Some (record { plans = plans; fetched = Some came }) };
    })
head-follows durable number m plans pieces came is has serves = record {
  number_is = refl;
  below = is.below;
  boots_are = refl;
  boot_is = refl;
  batch_is = λ batch now. subst (IsFreshBatch durable m.protocol.version m.asked_at) (same_Some _ batch now) (record {
    asked = (is.batch_is _ has).asked;
    fetched_is =
        λ fetched this.
        subst (λ (f : Fetched). (m.protocol.version ≤ f.version) × (m.asked_at ≤ f.version) × (f.version ≤ length durable))
        (same_Some came fetched this) serves;
  });
  asked = omega arith;
  heads = λ request other head. record {
    asked = head.asked;
    above = λ batch now same. head.above _ has same;
    on = λ batch now none same.
        absurd (none-some came (sym none ∙ ap (λ (b : Batch). b.fetched) (sym (same_Some _ batch now))));
  };
}

module _ (w : World) (event : Event) (h : Fresh w) (i : ℕ) (m : Member) (here : slice_get w.members i ≡ Some m) where
  -- what was fetched for its batch
  pub serving : (plans : List Plan) (fetched : Fetched) → m.protocol.batch ≡ Some (record { plans = plans; fetched = Some fetched })
      → (m.protocol.version ≤ fetched.version) × (m.asked_at ≤ fetched.version) × (fetched.version ≤ length w.primary.durable)
  serving plans fetched has = ((h.members_are i m here).batch_is _ has).fetched_is fetched refl

  change_fresh : (output : Output) (new : Member) → HasBoot event → Change w event i m output new → Fresh (with_member w new)
  change_fresh output new boots (hears answer known pieces is) =
      Fresh-member w i m new h here
      (alike w.primary.durable i m known pieces m.protocol.waiting m.protocol.broken (h.members_are i m here))
  change_fresh output new boots (opens plan) =
      Fresh-member w i m new h here
      (alike w.primary.durable i m m.known m.pieces (m.protocol.waiting ++ plan ∷ []) m.protocol.broken (h.members_are i m here))
  change_fresh output new boots (fetches plans head pieces has sent) =
      Fresh-member w i m new h here
      (head-follows w.primary.durable i m plans pieces (fetched_by head) (h.members_are i m here) has
      (fetched-fresh w i m plans head h here has sent))
  change_fresh output new boots (reports plans fetched is has) =
      Fresh-member w i m new h here (done-follows w i m fetched (serving plans fetched has).2)
  change_fresh output new boots (moves plans fetched has) =
      Fresh-member w i m new h here (moved w.primary.durable i m _ fetched (h.members_are i m here) has refl)
  change_fresh output new boots breaks =
      Fresh-member w i m new h here
      (alike w.primary.durable i m m.known (none_known m.pieces.base) m.protocol.waiting true (h.members_are i m here))
  change_fresh output new boots (restarts boot is never) =
      Fresh-restarted w i boot m h here (never-had m.boots boot never) (subst HasBoot is boots)

  change_rows : (output : Output) (new : Member) → Change w event i m output new → SaysRows w.primary.durable w event output
  change_rows output new (hears answer known pieces is) = no-rows w.primary.durable w event answer is.0
  change_rows output new (reports plans fetched is has) =
      let serves = serving plans fetched has in
      (i, m, _, is, here, has, (fetched, refl, serves.1, serves.2, refl))
  change_rows output new other = tt

-- ---- the moves

move-fresh : (laws : StepLaws) (w : World) (event : Event) (output : Output) (new : World) → HasBoot event → Fresh w
    → Move w event output new → Fresh new
move-fresh laws w event output new boots h begins = Fresh-transactions w _ h
move-fresh laws w event output new boots h (changes number draft after here taken) = Fresh-transactions w _ h
move-fresh laws w event output new boots h (ends number) = Fresh-transactions w _ h
move-fresh laws w event output new boots h (refuses number worker draft fault here refused) = Fresh-transactions w _ h
move-fresh laws w event output new boots h (commits number worker draft ticket taken) =
    Fresh-committed w worker draft _ h (commit-numbered w.primary worker draft ticket taken)
move-fresh laws w event output new boots h (flushes count runs) = Fresh-flushed w count h
move-fresh laws w event output new boots h (bases pieces) = Fresh-based w h
move-fresh laws w event output new boots h (stops bytes runs) = Fresh-stopped w bytes h
move-fresh laws w event output new boots h (starts is) = Fresh-started w h
move-fresh laws w event output new boots h (sends answer more is sent) = Fresh-sent w more h (sent-fresh laws w more h sent)
move-fresh laws w event output new boots h (asks i m here none) =
    let next = new_batch w m in
    Fresh-sent (with_member w next) (ask_bytes m (m.protocol.request + 1) ∷ [])
    (Fresh-member w i m next h here (new-follows w m (h.members_are i m here).below)) (
      ask-fresh laws w (slice_set w.members m.protocol.number next) i m (m.protocol.request + 1) h here (λ other there.
          let same = get-set_same w.members m.protocol.number next other there in
          let asked = ap (λ (x : Member). x.protocol.request) same in
          (ap (λ (x : Member). x.boots) same, omega arith)),
      tt,
    )
move-fresh laws w event output new boots h (renews i m plans fetched is here has) =
    let next = renewed_batch m plans in
    Fresh-sent (with_member w next) (ask_bytes m (m.protocol.request + 1) ∷ [])
    (Fresh-member w i m next h here (renewed-follows w m i plans fetched (h.members_are i m here) has)) (
      ask-fresh laws w (slice_set w.members m.protocol.number next) i m (m.protocol.request + 1) h here (λ other there.
          let same = get-set_same w.members m.protocol.number next other there in
          let asked = ap (λ (x : Member). x.protocol.request) same in
          (ap (λ (x : Member). x.boots) same, omega arith)),
      tt,
    )
move-fresh laws w event output new boots h (becomes i m after answer here change) =
    change_fresh w event h i m here answer after boots change
move-fresh laws w event output new boots h other = h

move-rows : (w : World) (event : Event) (output : Output) (new : World) → Fresh w → Move w event output new
    → SaysRows w.primary.durable w event output
move-rows w event output new h (idle answer is) = no-rows w.primary.durable w event answer is.0
move-rows w event output new h (dumps i m is here) =
    let below = (h.members_are i m here).below in
    let numbered = h.numbered in
    (i, m, is, here, (omega arith, below, refl))
move-rows w event output new h (refuses number worker draft fault here refused) =
    no-rows w.primary.durable w event (of_commit fault) (commit-silent fault)
move-rows w event output new h (sends answer more is sent) = no-rows w.primary.durable w event answer is.0
move-rows w event output new h (becomes i m after answer here change) = change_rows w event h i m here answer after change
move-rows w event output new h other = tt

pub step-serves : (laws : StepLaws) (old : World) (event : Event) (output : Output) (new : World) → HasBoot event → Fresh old
    → MayHappen old event output new → Serves old event (output, new)
step-serves laws old event output new boots h may =
    let move = step-moves old event output new may in
    record { fresh = move-fresh laws old event output new boots h move; rows = move-rows old event output new h move }

-- the boots of events that are possible have 64 bits
possible-boot : (workers replicas : ℕ) (event : Event) → IsPossible workers replicas event → HasBoot event
possible-boot workers replicas (events.Restart replica boot) h = h.1
possible-boot workers replicas other h = tt

pub possible-boots : (workers replicas : ℕ) (todo : List Event) → AllByRecursion (IsPossible workers replicas) todo
    → AllByRecursion HasBoot todo
possible-boots workers replicas [] all = tt
possible-boots workers replicas (event ∷ todo) all =
    (possible-boot workers replicas event all.0, possible-boots workers replicas todo all.1)

-- The few moves of a fresh world, each of which leaves it fresh.
use Rattle.std.proofs.Common.{◌≡◌, ℕ, zero, suc, ◌+◌, ◌^◌, ◌<◌, ◌≤◌, Bool, false, List, [], ◌∷◌, ◌++◌, length, take, drop, Option}
use Rattle.std.proofs.Common.{Some, Result, Ok, Err}
use Rattle.std.proofs.Common.{refl, sym, ap, subst, ◌∙◌, inl, inr, arith}
use Rattle.std.specs.List.{slice_get, slice_set, AllByRecursion}
use Rattle.std.proofs.lemmas.List.{length-append, length-set, take-append-drop}
use Rattle.std.proofs.lemmas.List.Elements.{Contains-push}
use Rattle.std.proofs.lemmas.Option.{none-some, same_Some}
use Rattle.rows.specs.declared.commit.Commit.{Commit}
use Rattle.rows.specs.declared.limits.TheConstants.{REPLICAS_MAX}
use Rattle.wire.specs.declared.datagram.Datagram.{Datagram}
use Rattle.wire.specs.declared.datagram.Datagram.TheVariants as datagrams
use Rattle.wire.specs.declared.faults.WireFault.{WireFault}
use Rattle.wire.specs.Reading.{reading}
use Rattle.mvcc.specs.Transaction.{Transaction}
use Rattle.queries.specs.declared.plan.Plan.{Plan}
use Rattle.dispatcher.specs.State.{Batch, Fetched}
use Rattle.primary.specs.Steps.{committed, flushed, based}
use Rattle.script.specs.declared.setup.Setup.{Setup}
use Rattle.world.specs.Steps.{World, Member, KnownPieces, fresh, fresh_from, opening_world, with_member, caught_up, stop_happens}
use Rattle.world.specs.Stops.{whole_in}
use Rattle.world.specs.Inner.Boots.{IsInBoot, IsOfBoot}
use Rattle.world.specs.Inner.Fresh.{IsFreshBatch, IsFreshMember, IsFreshHead, IsFreshReading, Fresh}
use Rattle.world.proofs.Boots.{of-boot-stays}
use Rattle.world.proofs.Lists.{get-set, get-append, All-get}

-- ---- more commits

-- a world with other open transactions
pub Fresh-transactions : (w : World) (transactions : List (Option Transaction)) → Fresh w → Fresh (record w { transactions = transactions })
Fresh-transactions w transactions h = record { numbered = h.numbered; few = h.few; members_are = h.members_are; sent_is = h.sent_is }

-- one more commit is pending, and a transaction is over
pub Fresh-committed : (w : World) (worker : ℕ) (draft : Transaction) (transactions : List (Option Transaction)) → Fresh w
    → length w.primary.durable + length w.primary.pending + 1 < 2 ^ 64
    → Fresh (record w { primary = committed w.primary worker draft.entries; transactions = transactions })
Fresh-committed w worker draft transactions h below = record {
  numbered = omega (arith, length-append w.primary.pending (record { worker = worker; entries = draft.entries } ∷ []));
  few = h.few;
  members_are = h.members_are;
  sent_is = h.sent_is;
}

member-grows : (durable more : List Commit) (number : ℕ) (m : Member) → IsFreshMember durable number m
    → IsFreshMember (durable ++ more) number m
member-grows durable more number m h = record {
  number_is = h.number_is;
  below = let below = h.below in omega (arith, length-append durable more);
  boot_is = h.boot_is;
  batch_is = λ batch has.
      let asked = (h.batch_is batch has).asked in
      record {
        asked = omega (arith, length-append durable more);
        fetched_is = λ fetched is. let found =
            (h.batch_is batch has).fetched_is fetched is in (found.0, found.1, omega (arith, length-append durable more));
      };
}

reading-grows : (durable more : List Commit) (members : List Member) (read : Result Datagram WireFault)
    → IsFreshReading durable members read → IsFreshReading (durable ++ more) members read
reading-grows durable more members (Err fault) h = tt
reading-grows durable more members (Ok (datagrams.Frame worker seq commit last entries)) h = tt
reading-grows durable more members (Ok (datagrams.Ask replica boot request)) h = h
reading-grows durable more members (Ok (datagrams.Head head)) h = let below =
    h.0 in (omega (arith, length-append durable more), h.1)
reading-grows durable more members (Ok (datagrams.Want replica worker from)) h = tt
reading-grows durable more members (Ok (datagrams.Piece base number last entries)) h = tt
reading-grows durable more members (Ok (datagrams.Pull replica base from)) h = tt

-- pending commits become durable
pub Fresh-flushed : (w : World) (count : ℕ) → Fresh w → Fresh (record w { primary = flushed w.primary count })
Fresh-flushed w count h =
    let front = take count w.primary.pending in
    let back = drop count w.primary.pending in
    let numbered = h.numbered in
    let parts : length front + length back ≡ length w.primary.pending =
    sym (length-append front back) ∙ ap length (take-append-drop count w.primary.pending) in
    record {
      numbered = omega (arith, length-append w.primary.durable front);
      few = h.few;
      members_are = λ i m here. member-grows w.primary.durable front i m (h.members_are i m here);
      sent_is = λ i bytes here. reading-grows w.primary.durable front w.members (reading bytes) (h.sent_is i bytes here);
    }

-- what is durable becomes the base
pub Fresh-based : (w : World) → Fresh w → Fresh (record w { primary = based w.primary })
Fresh-based w h = record { numbered = h.numbered; few = h.few; members_are = h.members_are; sent_is = h.sent_is }

-- the primary stops
pub Fresh-stopped : (w : World) (bytes : ℕ) → Fresh w → Fresh (stop_happens w bytes).1
Fresh-stopped w bytes h =
    let count = whole_in (length w.primary.durable) w.primary.pending bytes in
    let front = take count w.primary.pending in
    let back = drop count w.primary.pending in
    let numbered = h.numbered in
    let parts : length front + length back ≡ length w.primary.pending =
    sym (length-append front back) ∙ ap length (take-append-drop count w.primary.pending) in
    record {
      numbered = omega (arith, length-append w.primary.durable front);
      few = h.few;
      members_are = λ i m here. member-grows w.primary.durable front i m (h.members_are i m here);
      sent_is = λ i bytes here. reading-grows w.primary.durable front w.members (reading bytes) (h.sent_is i bytes here);
    }

-- and starts again
pub Fresh-started : (w : World) → Fresh w → Fresh (record w { stopped = false })
Fresh-started w h = record { numbered = h.numbered; few = h.few; members_are = h.members_are; sent_is = h.sent_is }

-- ---- more datagrams

pub Fresh-sent : (w : World) (more : List (List ℕ)) → Fresh w
    → AllByRecursion (λ bytes. IsFreshReading w.primary.durable w.members (reading bytes)) more → Fresh (record w { sent = w.sent ++ more })
Fresh-sent w more h fresh = record {
  numbered = h.numbered;
  few = h.few;
  members_are = h.members_are;
  sent_is = λ i bytes here. elim (get-append w.sent more i bytes here) [
    | inl old ↦ h.sent_is i bytes old
    | inr new ↦ All-get (λ sent. IsFreshReading w.primary.durable w.members (reading sent)) more fresh new.0 bytes new.1
  ];
}

-- ---- a replica changes

-- what a replica is to keep as it changes
pub record Follows (durable : List Commit) (old new : Member) : Type 0 where
  pub number_is : new.protocol.number ≡ old.protocol.number
  pub below : new.protocol.version ≤ length durable
  pub boots_are : new.boots ≡ old.boots
  pub boot_is : new.protocol.boot ≡ old.protocol.boot
  pub batch_is : (batch : Batch) → new.protocol.batch ≡ Some batch → IsFreshBatch durable new.protocol.version new.asked_at batch
  pub asked : old.protocol.request ≤ new.protocol.request
  pub heads : (request version : ℕ) → IsFreshHead old request version → IsFreshHead new request version

-- a replica with other known frames and pieces or waiting queries, or one that is broken
pub alike : (durable : List Commit) (number : ℕ) (m : Member) (known : List (List ℕ)) (pieces : KnownPieces) (waiting : List Plan)
    (broken : Bool) → IsFreshMember durable number m
    → Follows durable m
    (record m { known = known; pieces = pieces; protocol = record m.protocol { waiting = waiting; broken = broken } })
alike durable number m known pieces waiting broken h = record {
  number_is = refl;
  below = h.below;
  boots_are = refl;
  boot_is = refl;
  batch_is = h.batch_is;
  asked = omega arith;
  heads = λ request version head. record { asked = head.asked; above = head.above; on = head.on };
}

-- a replica that goes to the version that was fetched for its batch
pub moved : (durable : List Commit) (number : ℕ) (m : Member) (batch : Batch) (fetched : Fetched) → IsFreshMember durable number m
    → m.protocol.batch ≡ Some batch → batch.fetched ≡ Some fetched
    → Follows durable m (caught_up m fetched m.protocol.batch)
moved durable number m batch fetched h has is =
    let fresh = h.batch_is batch has in
    let found = fresh.fetched_is fetched is in
    record {
      number_is = refl;
      below = found.2;
      boots_are = refl;
      boot_is = refl;
      batch_is = λ other now. subst (IsFreshBatch durable fetched.version m.asked_at) (same_Some batch other (sym has ∙ now)) (record {
        asked = fresh.asked;
        fetched_is =
            λ new this.
            subst (λ (f : Fetched). (fetched.version ≤ f.version) × (m.asked_at ≤ f.version) × (f.version ≤ length durable))
            (same_Some fetched new (sym is ∙ this)) (omega arith, found.1, found.2);
      });
      asked = omega arith;
      heads = λ request version head. record {
        asked = head.asked;
        above = head.above;
        on = λ other now none same.
            absurd (none-some fetched (sym none ∙ ap (λ (b : Batch). b.fetched) (sym (same_Some batch other (sym has ∙ now))) ∙ is));
      };
    }

reading-follows : (durable : List Commit) (members : List Member) (i : ℕ) (old new : Member) → slice_get members i ≡ Some old
    → Follows durable old new
    → (read : Result Datagram WireFault) → IsFreshReading durable members read → IsFreshReading durable (slice_set members i new) read
reading-follows durable members i old new here follows (Err fault) h = tt
reading-follows durable members i old new here follows (Ok (datagrams.Frame worker seq commit last entries)) h = tt
reading-follows durable members i old new here follows (Ok (datagrams.Ask replica boot request)) h = (
  h.0,
  λ m there. elim (get-set members i new replica m there) [
    | inl same ↦
        let asked = follows.asked in
        subst (λ (other : Member). IsOfBoot other.boots other.protocol.boot boot (request ≤ other.protocol.request)) (sym same.1)
        (of-boot-stays old.boots new.boots old.protocol.boot new.protocol.boot boot (request ≤ old.protocol.request)
        (request ≤ new.protocol.request) follows.boots_are follows.boot_is (λ before. omega arith)
        (h.1 old (ap (slice_get members) same.0 ∙ here)))
    | inr stays ↦ h.1 m stays
  ],
)
reading-follows durable members i old new here follows (Ok (datagrams.Head head)) h = (
  h.0,
  λ m there. elim (get-set members i new head.replica m there) [
    | inl same ↦ subst
        (λ (other : Member). IsOfBoot other.boots other.protocol.boot head.boot (IsFreshHead other head.request head.version))
        (sym same.1)
        (of-boot-stays old.boots new.boots old.protocol.boot new.protocol.boot head.boot (IsFreshHead old head.request head.version)
        (IsFreshHead new head.request head.version) follows.boots_are follows.boot_is (follows.heads head.request head.version)
        (h.1 old (ap (slice_get members) same.0 ∙ here)))
    | inr stays ↦ h.1 m stays
  ],
)
reading-follows durable members i old new here follows (Ok (datagrams.Want replica worker from)) h = tt
reading-follows durable members i old new here follows (Ok (datagrams.Piece base number last entries)) h = tt
reading-follows durable members i old new here follows (Ok (datagrams.Pull replica base from)) h = tt

changed : (w : World) (i : ℕ) (old new : Member) → Fresh w → slice_get w.members i ≡ Some old → Follows w.primary.durable old new
    → Fresh (record w { members = slice_set w.members i new })
changed w i old new h here follows = record {
  numbered = h.numbered;
  few = let few = h.few in omega (arith, length-set w.members i new);
  members_are = λ j m there. elim (get-set w.members i new j m there) [
    | inl same ↦
        let is = h.members_are i old here in
        subst (IsFreshMember w.primary.durable j) (sym same.1)
        (record {
          number_is = follows.number_is ∙ is.number_is ∙ sym same.0;
          below = follows.below;
          boot_is =
              subst (IsInBoot new.boots) (sym follows.boot_is)
              (subst (λ (boots : List ℕ). IsInBoot boots old.protocol.boot) (sym follows.boots_are) is.boot_is);
          batch_is = follows.batch_is;
        })
    | inr stays ↦ h.members_are j m stays
  ];
  sent_is = λ j bytes there. reading-follows w.primary.durable w.members i old new here follows (reading bytes) (h.sent_is j bytes there);
}

-- the world with the replica as it has changed
pub Fresh-member : (w : World) (i : ℕ) (old new : Member) → Fresh w → slice_get w.members i ≡ Some old → Follows w.primary.durable old new
    → Fresh (with_member w new)
Fresh-member w i old new h here follows =
    subst (λ (n : ℕ). Fresh (record w { members = slice_set w.members n new }))
    (sym (follows.number_is ∙ (h.members_are i old here).number_is)) (changed w i old new h here follows)

-- ---- the beginning

started-fresh : (durable : List Commit) (workers number count i : ℕ) (m : Member) → slice_get (fresh_from workers number count) i ≡ Some m
    → IsFreshMember durable (number + i) m
started-fresh durable workers number zero i m here = absurd (none-some m here)
started-fresh durable workers number (suc count) zero m here =
    let same : fresh workers number ≡ m = same_Some (fresh workers number) m here in
    let index : number ≡ number + 0 = omega arith in
    subst (IsFreshMember durable (number + 0)) same
    (record {
      number_is = index;
      below = omega arith;
      boot_is = record { had = Contains-push [] 1; below = omega arith };
      batch_is = λ batch has. absurd (none-some batch has);
    })
started-fresh durable workers number (suc count) (suc i) m here =
    let index : suc number + i ≡ number + suc i = omega arith in
    subst (λ (n : ℕ). IsFreshMember durable n m) index (started-fresh durable workers (suc number) count i m here)

length-fresh : (workers number count : ℕ) → length (fresh_from workers number count) ≡ count
length-fresh workers number zero = refl
length-fresh workers number (suc count) = ap suc (length-fresh workers (suc number) count)

pub opening-fresh : (setup : Setup) (durable : List Commit) (stopped : Bool) → length durable < 2 ^ 64 → setup.replicas ≤ REPLICAS_MAX
    → Fresh (opening_world setup durable stopped)
opening-fresh setup durable stopped numbered few = record {
  numbered = omega (arith, numbered);
  few = omega (arith, length-fresh setup.workers 0 setup.replicas);
  members_are = λ i m here. let index : 0 + i ≡ i =
      omega arith in subst (λ (n : ℕ). IsFreshMember durable n m) index (started-fresh durable setup.workers 0 setup.replicas i m here);
  sent_is = λ i bytes here. absurd (none-some bytes here);
}

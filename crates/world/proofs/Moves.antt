-- The few moves of sound parts, each of which leaves them sound.
use Rattle.std.proofs.Common.{◌≡◌, ℕ, ◌≤◌, Bool, List, [], ◌∷◌, ◌++◌, length, Option, Some, sym, ap}
use Rattle.std.proofs.Common.{subst, ◌∙◌, inl, inr, arith}
use Rattle.std.specs.List.{slice_get}
use Rattle.std.proofs.lemmas.List.{length-append, length-set}
use Rattle.rows.specs.declared.commit.Commit.{Commit}
use Rattle.rows.specs.ImageLaws.{AreSpelled}
use Rattle.rows.specs.Shape.{Shape}
use Rattle.rows.specs.Commits.{IsLegal}
use Rattle.journal.specs.declared.form.Form.{Form}
use Rattle.wire.specs.Reading.{reading}
use Rattle.mvcc.specs.Transaction.{Transaction}
use Rattle.dispatcher.specs.Feeding.{IsFedFrom, Tells, identity_of}
use Rattle.dispatcher.specs.State.{Replica}
use Rattle.dispatcher.specs.TableText.{names_of}
use Rattle.script.specs.declared.output.Output.{Output}
use Rattle.world.specs.Cores.{Cores}
use Rattle.world.specs.Inner.CoreSteps.{with_replica, with_sent}
use Rattle.world.specs.Steps.{World}
use Rattle.world.proofs.Lists.{get-set, get-append, get-one, set-same}
use Rattle.world.specs.Inner.Boots.{IsInBoot}
use Rattle.world.specs.Inner.Sound.{Sound, IsFed}
use Rattle.world.specs.Standing.{boots_at, world_of}
use Rattle.world.proofs.FedLaws.{FedLaws}
use Rattle.world.proofs.Worlds.{seen}

-- a replica that stays fed, and is the same
pub record Goes (shape : Shape) (durable : List Commit) (old new : Replica) : Type 0 where
  pub feeding : IsFedFrom shape durable new
  pub identity : identity_of new ≡ identity_of old

-- a step of the parts from sound ones, and the same step in the world
abbrev pub Follows : Shape → Output × World → Output × Cores → Type 0
Follows shape there here = (there ≡ seen here) × Sound shape here.1

-- ---- one replica

goes-fed : (shape : Shape) (names : List (List ℕ)) (workers : ℕ) (durable : List Commit) (boots : List ℕ) (i : ℕ) (old new : Replica)
    → IsFed shape names workers durable boots i old → Goes shape durable old new → IsFed shape names workers durable boots i new
goes-fed shape names workers durable boots i old new fed goes = record {
  feeding = goes.feeding;
  names_are = ap (λ (x : List (List ℕ) × Shape × ℕ × ℕ × ℕ). x.0) goes.identity ∙ fed.names_are;
  workers_are = ap (λ (x : List (List ℕ) × Shape × ℕ × ℕ × ℕ). x.2) goes.identity ∙ fed.workers_are;
  number_is = ap (λ (x : List (List ℕ) × Shape × ℕ × ℕ × ℕ). x.3) goes.identity ∙ fed.number_is;
  boot_is = subst (λ (x : List (List ℕ) × Shape × ℕ × ℕ × ℕ). IsInBoot boots x.4) (sym goes.identity) fed.boot_is;
}

pub Sound-replica : (shape : Shape) (p : Cores) (i : ℕ) (old new : Replica) → Sound shape p → slice_get p.replicas i ≡ Some old
    → Goes shape p.primary.durable old new → Sound shape (with_replica p i new)
Sound-replica shape p i old new sound at goes = let names = names_of p.primary.schema in record {
  setup_is = sound.setup_is;
  primary_is = sound.primary_is;
  transactions_are = sound.transactions_are;
  boots_there = sound.boots_there ∙ sym (length-set p.replicas i new);
  asked_there = sound.asked_there ∙ sym (length-set p.replicas i new);
  few = let few = sound.few in omega (arith, length-set p.replicas i new);
  fed = λ j r here. elim (get-set p.replicas i new j r here) [
    | inl same ↦ subst (λ (j : ℕ). IsFed shape names p.primary.workers p.primary.durable (boots_at p.boots j) j r) (sym same.0)
        (subst (λ (r : Replica). IsFed shape names p.primary.workers p.primary.durable (boots_at p.boots i) i r) (sym same.1)
        (goes-fed shape names p.primary.workers p.primary.durable (boots_at p.boots i) i old new (sound.fed i old at) goes))
    | inr other ↦ sound.fed j r other
  ];
  sent_is = sound.sent_is;
}

-- nothing of a replica changes
pub Follows-same : (shape : Shape) (p : Cores) (i : ℕ) (r : Replica) (output : Output) → Sound shape p → slice_get p.replicas i ≡ Some r
    → Follows shape (output, world_of p) (output, with_replica p i r)
Follows-same shape p i r output sound at =
    let same : p ≡ with_replica p i r =
    ap (λ (replicas : List Replica). record p { replicas = replicas }) (sym (set-same p.replicas i r at)) in
    (ap (λ (p : Cores). (output, world_of p)) same, subst (Sound shape) same sound)

-- what is noted of a replica changes
pub Sound-noted : (shape : Shape) (p : Cores) (asked_at : List ℕ) → Sound shape p → length asked_at ≡ length p.asked_at
    → Sound shape (record p { asked_at = asked_at })
Sound-noted shape p asked_at sound same = record {
  setup_is = sound.setup_is;
  primary_is = sound.primary_is;
  transactions_are = sound.transactions_are;
  boots_there = sound.boots_there;
  asked_there = same ∙ sound.asked_there;
  few = sound.few;
  fed = sound.fed;
  sent_is = sound.sent_is;
}

-- ---- datagrams

pub Sound-sent : (shape : Shape) (p : Cores) (more : List (List ℕ)) → Sound shape p
    → ((i : ℕ) (bytes : List ℕ) → slice_get more i ≡ Some bytes
    → Tells shape p.primary.workers p.primary.durable (reading bytes))
    → Sound shape (record p { sent = p.sent ++ more })
Sound-sent shape p more sound means = record {
  setup_is = sound.setup_is;
  primary_is = sound.primary_is;
  transactions_are = sound.transactions_are;
  boots_there = sound.boots_there;
  asked_there = sound.asked_there;
  few = sound.few;
  fed = sound.fed;
  sent_is =
      λ i bytes here. elim (get-append p.sent more i bytes here)
      [ inl old ↦ sound.sent_is i bytes old | inr new ↦ means new.0 bytes new.1 ];
}

pub Sound-one : (shape : Shape) (p : Cores) (bytes : List ℕ) → Sound shape p
    → Tells shape p.primary.workers p.primary.durable (reading bytes)
    → Sound shape (with_sent p bytes)
Sound-one shape p bytes sound means =
    Sound-sent shape p (bytes ∷ []) sound
    (λ i other here. subst (λ (bytes : List ℕ). Tells shape p.primary.workers p.primary.durable (reading bytes))
    (sym (get-one bytes i other here)) means)

-- ---- transactions

pub Sound-transactions : (shape : Shape) (p : Cores) (transactions : List (Option Transaction)) → Sound shape p
    → ((i : ℕ) (draft : Transaction) → slice_get transactions i ≡ Some (Some draft) → draft.snapshot ≤ length p.primary.durable)
    → Sound shape (record p { transactions = transactions })
Sound-transactions shape p transactions sound are = record {
  setup_is = sound.setup_is;
  primary_is = sound.primary_is;
  transactions_are = are;
  boots_there = sound.boots_there;
  asked_there = sound.asked_there;
  few = sound.few;
  fed = sound.fed;
  sent_is = sound.sent_is;
}

-- ---- commits

-- another commit is pending
pub Sound-pending : (shape : Shape) (p : Cores) (pending : List Commit) → Sound shape p
    → Sound shape (record p { primary = record p.primary { pending = pending } })
Sound-pending shape p pending sound = record {
  setup_is = sound.setup_is;
  primary_is = record {
    shape_is = sound.primary_is.shape_is;
    workers_some = sound.primary_is.workers_some;
    workers_few = sound.primary_is.workers_few;
  };
  transactions_are = sound.transactions_are;
  boots_there = sound.boots_there;
  asked_there = sound.asked_there;
  few = sound.few;
  fed = sound.fed;
  sent_is = sound.sent_is;
}

fed-grows : (laws : FedLaws) (shape : Shape) (names : List (List ℕ)) (workers : ℕ) (durable more : List Commit) (boots : List ℕ)
    (i : ℕ) (r : Replica)
    → IsLegal shape workers (durable ++ more) → AreSpelled (durable ++ more) → IsFed shape names workers durable boots i r
    → IsFed shape names workers (durable ++ more) boots i r
fed-grows laws shape names workers durable more boots i r legal spelled fed = record {
  feeding =
      laws.commits shape durable more r (subst (λ (n : ℕ). IsLegal shape n (durable ++ more)) (sym fed.workers_are) legal) spelled
      fed.feeding;
  names_are = fed.names_are;
  workers_are = fed.workers_are;
  number_is = fed.number_is;
  boot_is = fed.boot_is;
}

-- what is durable grows, and other commits are pending behind it
pub Sound-grown : (laws : FedLaws) (shape : Shape) (p : Cores) (more pending : List Commit)
    → IsLegal shape p.primary.workers (p.primary.durable ++ more) → AreSpelled (p.primary.durable ++ more) → Sound shape p
    → Sound shape (record p { primary = record p.primary { durable = p.primary.durable ++ more; pending = pending } })
Sound-grown laws shape p more pending legal spelled sound =
    let durable = p.primary.durable in
    let workers = p.primary.workers in
    record {
      setup_is = sound.setup_is;
      primary_is = record {
        shape_is = sound.primary_is.shape_is;
        workers_some = sound.primary_is.workers_some;
        workers_few = sound.primary_is.workers_few;
      };
      transactions_are =
          λ i draft here. let known = sound.transactions_are i draft here in
          omega (arith, length-append durable more);
      boots_there = sound.boots_there;
      asked_there = sound.asked_there;
      few = sound.few;
      fed =
          λ i r here. fed-grows laws shape (names_of p.primary.schema) workers durable more (boots_at p.boots i) i r legal
          spelled (sound.fed i r here);
      sent_is = λ i bytes here. laws.truth shape workers durable more (reading bytes) (sound.sent_is i bytes here);
    }

-- the primary fails, stops or starts, or its base or its journal changes
pub Sound-apart : (shape : Shape) (p : Cores) (failed : Bool) (base : ℕ) (stopped : Bool) (journal : List ℕ) (form : Form) → Sound shape p
    → Sound shape (record p {
      primary = record p.primary { failed = failed; base = base };
      stopped = stopped;
      journal = journal;
      form = form;
    })
Sound-apart shape p failed base stopped journal form sound = record {
  setup_is = sound.setup_is;
  primary_is = record {
    shape_is = sound.primary_is.shape_is;
    workers_some = sound.primary_is.workers_some;
    workers_few = sound.primary_is.workers_few;
  };
  transactions_are = sound.transactions_are;
  boots_there = sound.boots_there;
  asked_there = sound.asked_there;
  few = sound.few;
  fed = sound.fed;
  sent_is = sound.sent_is;
}

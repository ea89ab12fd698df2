-- A replica that starts again in a boot that it never had leaves the parts of a world, and is in the world as its member is.
use Rattle.std.proofs.Common.{◌≡◌, ℕ, zero, suc, ◌^◌, ◌<◌, ◌≤◌, Bool, true, false, cond, ◌==◌, List, [], ◌∷◌, ◌++◌, length, get_or}
use Rattle.std.proofs.Common.{Option, Some, Result, Ok, Err, OnOk, OnErr, refl, sym, ap, subst, ◌∙◌, inl, inr, arith}
use Rattle.std.specs.List.{slice_get, slice_set, slice_index, Contains}
use Rattle.std.specs.Result.{is_err}
use Rattle.std.proofs.lemmas.Bool.{false≢true, eq-eqb}
use Rattle.std.proofs.lemmas.List.{length-set}
use Rattle.std.proofs.lemmas.List.Elements.{Contains-push, Contains-append_left}
use Rattle.std.proofs.lemmas.List.Folds.{list_any_at}
use Rattle.std.proofs.lemmas.Option.{none-some, same_Some, slice_get_within, slice_get_cases}
use Rattle.rows.specs.declared.commit.Commit.{Commit}
use Rattle.rows.specs.declared.kind.Kind.{Kind}
use Rattle.rows.specs.Shape.{Shape, shape_of}
use Rattle.rows.specs.Commits.{IsLegal}
use Rattle.rows.specs.ImageLaws.{AreSpelled}
use Rattle.wire.specs.declared.datagram.Datagram.{Datagram}
use Rattle.wire.specs.declared.datagram.Datagram.TheVariants as datagrams
use Rattle.wire.specs.declared.faults.WireFault.{WireFault}
use Rattle.wire.specs.Reading.{reading}
use Rattle.dispatcher.specs.State.{Replica}
use Rattle.dispatcher.specs.Protocol.{started_protocol}
use Rattle.dispatcher.specs.TableText.{names_of}
use Rattle.dispatcher.specs.Steps.{started_replica as replica_started}
use Rattle.script.specs.declared.event.Event.TheVariants.{Restart}
use Rattle.script.specs.declared.output.Output.{Output}
use Rattle.script.specs.declared.output.Output.TheVariants as outputs
use Rattle.world.specs.Cores.{Cores}
use Rattle.world.specs.Standing.{boots_at, member_of, world_of}
use Rattle.world.specs.Steps.{World, Member, had_boot, restarted, with_member}
use Rattle.world.specs.Inner.Boots.{IsOfBoot}
use Rattle.world.specs.Inner.CoreSteps.{with_boot, with_restarted, restart_by, MayStep}
use Rattle.world.specs.Inner.Sound.{Sound, IsFed}
use Rattle.world.specs.Inner.Fresh.{IsFreshMember, IsFreshHead, IsFreshReading, Fresh}
use Rattle.world.proofs.Boots.{of-new-boot}
use Rattle.world.proofs.FedLaws.{FedLaws}
use Rattle.world.proofs.Lists.{get-set}
use Rattle.world.proofs.Moves.{Follows}
use Rattle.world.proofs.Moving.{TakesMemory}
use Rattle.world.proofs.Slots.{set_same}
use Rattle.world.proofs.Worlds.{member_at, members-booted, known-started}

-- ---- boots

-- the boots that a replica had stay
boots-grow : (boots : List (List ℕ)) (i boot j had : ℕ) → Contains (boots_at boots j) had
    → Contains (boots_at (with_boot boots i boot) j) had
boots-grow [] i boot j had h = h
boots-grow (first ∷ boots) zero boot zero had h = Contains-append_left first (boot ∷ []) had h
boots-grow (first ∷ boots) zero boot (suc j) had h = h
boots-grow (first ∷ boots) (suc i) boot zero had h = h
boots-grow (first ∷ boots) (suc i) boot (suc j) had h = boots-grow boots i boot j had h

-- and it has the new one
boots-added : (boots : List (List ℕ)) (i boot : ℕ) → i < length boots → Contains (boots_at (with_boot boots i boot) i) boot
boots-added [] i boot within = absurd (omega arith)
boots-added (first ∷ boots) zero boot within = Contains-push first boot
boots-added (first ∷ boots) (suc i) boot within = boots-added boots i boot (omega arith)

-- a boot that it had is found among them
pub never-had : (boots : List ℕ) (boot : ℕ) → had_boot boots boot ≡ false → Contains boots boot → ⊥
never-had boots boot none had =
    false≢true (sym none ∙ list_any_at (λ one. one == boot) boots had.0 boot had.1 (eq-eqb (get_or boots had.0 boot) boot had.2))

-- ---- the world

-- a replica that has started again, as the world has it
restarted-member : (schema : List (List ℕ × List Kind)) (workers i boot at : ℕ) (had : List ℕ) (old : Replica) → old.number ≡ i
    → member_of (had ++ boot ∷ []) at (replica_started schema workers i boot) ≡ restarted workers (member_of had at old) boot
restarted-member schema workers i boot at had old is =
    let m = restarted workers (member_of had at old) boot in
    ap (λ (x : ℕ × List (List ℕ)). record m { known = x.1; protocol = started_protocol x.0 boot }) (cc (sym is, known-started workers))

-- the world with the member as it is then
pub world-restarts : (p : Cores) (i boot : ℕ) (old : Replica) → length p.boots ≡ length p.replicas → old.number ≡ i
    → world_of (with_restarted p i boot) ≡ with_member (world_of p) (restarted p.primary.workers (member_at p i old) boot)
world-restarts p i boot old there is =
    let schema = p.primary.schema in
    let workers = p.primary.workers in
    let had = boots_at p.boots i in
    let at = slice_index p.asked_at i in
    let w = world_of p in
    let new = restarted workers (member_at p i old) boot in
    let made = λ (members : List Member). record w { members = members } in
    ap made (members-booted p.replicas p.boots p.asked_at i (replica_started schema workers i boot) (had ++ boot ∷ []) there)
    ∙ ap (λ (m : Member). made (slice_set w.members i m)) (restarted-member schema workers i boot at had old is)
    ∙ ap (λ (n : ℕ). made (slice_set w.members n new)) (sym is)

-- ---- sound parts

-- a fresh replica in its new boot
restarted-fed : (laws : FedLaws) (schema : List (List ℕ × List Kind)) (workers : ℕ) (durable : List Commit) (boots : List (List ℕ))
    (i boot : ℕ) → IsLegal (shape_of schema) workers durable → AreSpelled durable → i < length boots → boot < 2 ^ 64
    → IsFed (shape_of schema) (names_of schema) workers durable (boots_at (with_boot boots i boot) i) i
    (replica_started schema workers i boot)
restarted-fed laws schema workers durable boots i boot legal spelled within below = record {
  feeding = laws.fresh schema durable workers i boot legal spelled;
  names_are = refl;
  workers_are = refl;
  number_is = refl;
  boot_is = record { had = boots-added boots i boot within; below = below };
}

-- the others are in boots that they had yet
others-fed : (shape : Shape) (names : List (List ℕ)) (workers : ℕ) (durable : List Commit) (boots : List (List ℕ)) (i boot j : ℕ)
    (r : Replica)
    → IsFed shape names workers durable (boots_at boots j) j r → IsFed shape names workers durable (boots_at (with_boot boots i boot) j) j r
others-fed shape names workers durable boots i boot j r fed = record {
  feeding = fed.feeding;
  names_are = fed.names_are;
  workers_are = fed.workers_are;
  number_is = fed.number_is;
  boot_is = record { had = boots-grow boots i boot j r.boot fed.boot_is.had; below = fed.boot_is.below };
}

pub Sound-restarted : (laws : FedLaws) (shape : Shape) (p : Cores) (i boot : ℕ) (old : Replica) → Sound shape p
    → slice_get p.replicas i ≡ Some old → (Contains (boots_at p.boots i) boot → ⊥) → boot < 2 ^ 64
    → Sound shape (with_restarted p i boot)
Sound-restarted laws shape p i boot old sound at never below =
    let workers = p.primary.workers in
    let durable = p.primary.durable in
    let boots = with_boot p.boots i boot in
    let new = replica_started p.primary.schema workers i boot in
    let same_shape = sound.primary_is.shape_is in
    let within = slice_get_within p.replicas i old at in
    let there = sound.boots_there in
    let was = sound.fed i old at in
    let legal = subst (λ (n : ℕ). IsLegal shape n durable) was.workers_are was.feeding.legal in
    let names = names_of p.primary.schema in
    let fed : IsFed shape names workers durable (boots_at boots i) i new =
    subst (λ (s : Shape). IsFed s names workers durable (boots_at boots i) i new) same_shape
    (restarted-fed laws p.primary.schema workers durable p.boots i boot
    (subst (λ (s : Shape). IsLegal s workers durable) (sym same_shape) legal) was.feeding.spelled (omega arith) below) in
    record {
      setup_is = sound.setup_is;
      primary_is = sound.primary_is;
      transactions_are = sound.transactions_are;
      boots_there = length-set p.boots i (boots_at p.boots i ++ boot ∷ []) ∙ sound.boots_there ∙ sym (length-set p.replicas i new);
      asked_there = sound.asked_there ∙ sym (length-set p.replicas i new);
      few = let few = sound.few in omega (arith, length-set p.replicas i new);
      fed = λ j r here. elim (get-set p.replicas i new j r here) [
        | inl same ↦ subst (λ (n : ℕ). IsFed shape names workers durable (boots_at boots n) n r) (sym same.0)
            (subst (λ (s : Replica). IsFed shape names workers durable (boots_at boots i) i s) (sym same.1) fed)
        | inr other ↦ others-fed shape names workers durable p.boots i boot j r (sound.fed j r other)
      ];
      sent_is = sound.sent_is;
    }

-- what a restart does in the world, and that it leaves sound parts, by what it answers
pub restart-follows : (laws : FedLaws) (shape : Shape) (p : Cores) (i boot : ℕ) (old : Replica) (used done : Output) → Sound shape p
    → slice_get p.replicas i ≡ Some old → boot < 2 ^ 64
    → Follows shape
    (cond (had_boot (boots_at p.boots i) boot) (used, world_of p)
    (done, with_member (world_of p) (restarted p.primary.workers (member_at p i old) boot)))
    (cond (had_boot (boots_at p.boots i) boot) (used, p) (done, with_restarted p i boot))
restart-follows laws shape p i boot old used done sound at below = by (had_boot (boots_at p.boots i) boot) refl
  where
    by : (had : Bool) → had_boot (boots_at p.boots i) boot ≡ had → Follows shape
        (cond had (used, world_of p) (done, with_member (world_of p) (restarted p.primary.workers (member_at p i old) boot)))
        (cond had (used, p) (done, with_restarted p i boot))
    by true e = (refl, sound)
    by false e = (
      ap (λ (w : World). (done, w)) (sym (world-restarts p i boot old sound.boots_there (sound.fed i old at).number_is)),
      Sound-restarted laws shape p i boot old sound at (never-had (boots_at p.boots i) boot e) below,
    )

-- ---- a fresh world

reading-restarts : (durable : List Commit) (members : List Member) (i workers boot : ℕ) (old : Member) → slice_get members i ≡ Some old
    → (Contains old.boots boot → ⊥) → (read : Result Datagram WireFault) → IsFreshReading durable members read
    → IsFreshReading durable (slice_set members i (restarted workers old boot)) read
reading-restarts durable members i workers new old at never (Err fault) h = tt
reading-restarts durable members i workers new old at never (Ok (datagrams.Frame worker seq commit last entries)) h = tt
reading-restarts durable members i workers new old at never (Ok (datagrams.Ask replica boot request)) h = (
  h.0,
  λ m there. elim (get-set members i (restarted workers old new) replica m there) [
    | inl same ↦ subst (λ (other : Member). IsOfBoot other.boots other.protocol.boot boot (request ≤ other.protocol.request)) (sym same.1)
        (of-new-boot old.boots (old.boots ++ new ∷ []) old.protocol.boot new boot (request ≤ old.protocol.request) (request ≤ 0)
        (Contains-append_left old.boots (new ∷ []) boot) never (h.1 old (ap (slice_get members) same.0 ∙ at)))
    | inr stays ↦ h.1 m stays
  ],
)
reading-restarts durable members i workers new old at never (Ok (datagrams.Head head)) h = (
  h.0,
  λ m there. elim (get-set members i (restarted workers old new) head.replica m there) [
    | inl same ↦ subst
        (λ (other : Member). IsOfBoot other.boots other.protocol.boot head.boot (IsFreshHead other head.request head.version))
        (sym same.1)
        (of-new-boot old.boots (old.boots ++ new ∷ []) old.protocol.boot new head.boot (IsFreshHead old head.request head.version)
        (IsFreshHead (restarted workers old new) head.request head.version) (Contains-append_left old.boots (new ∷ []) head.boot) never
        (h.1 old (ap (slice_get members) same.0 ∙ at)))
    | inr stays ↦ h.1 m stays
  ],
)
reading-restarts durable members i workers new old at never (Ok (datagrams.Want replica worker from)) h = tt
reading-restarts durable members i workers new old at never (Ok (datagrams.Piece base number last entries)) h = tt
reading-restarts durable members i workers new old at never (Ok (datagrams.Pull replica base from)) h = tt

member-restarts : (w : World) (i boot : ℕ) (old : Member) → Fresh w → slice_get w.members i ≡ Some old → (Contains old.boots boot → ⊥)
    → boot < 2 ^ 64 → Fresh (record w { members = slice_set w.members i (restarted w.primary.workers old boot) })
member-restarts w i boot old h at never below =
    let new = restarted w.primary.workers old boot in
    record {
      numbered = h.numbered;
      few = let few = h.few in omega (arith, length-set w.members i new);
      members_are = λ j m there. elim (get-set w.members i new j m there) [
        | inl same ↦ subst (IsFreshMember w.primary.durable j) (sym same.1)
            (record {
              number_is = (h.members_are i old at).number_is ∙ sym same.0;
              below = omega arith;
              boot_is = record { had = Contains-push old.boots boot; below = below };
              batch_is = λ batch has. absurd (none-some batch has);
            })
        | inr stays ↦ h.members_are j m stays
      ];
      sent_is =
          λ j bytes there. reading-restarts w.primary.durable w.members i w.primary.workers boot old at never (reading bytes)
          (h.sent_is j bytes there);
    }

-- the world with the replica in its new boot
pub Fresh-restarted : (w : World) (i boot : ℕ) (old : Member) → Fresh w → slice_get w.members i ≡ Some old
    → (Contains old.boots boot → ⊥) → boot < 2 ^ 64 → Fresh (with_member w (restarted w.primary.workers old boot))
Fresh-restarted w i boot old h at never below =
    subst (λ (n : ℕ). Fresh (record w { members = slice_set w.members n (restarted w.primary.workers old boot) }))
    (sym (h.members_are i old at).number_is) (member-restarts w i boot old h at never below)

-- ---- the call

-- what stands where a call failed, and where it did not
pub on-err : {X E : Type 0} (r : Result X E) (P : Type 0) → OnErr r P → is_err r ≡ true → P
on-err (Ok x) P h failed = absurd (false≢true failed)
on-err (Err e) P h failed = h

pub on-ok : {X E : Type 0} (r : Result X E) (P : Type 0) → OnOk r P → is_err r ≡ false → P
on-ok (Ok x) P h done = h
on-ok (Err e) P h done = absurd (false≢true (sym done))

-- what stands at an index
index-at : (boots : List (List ℕ)) (i : ℕ) (had : List ℕ) → slice_get boots i ≡ Some had → boots_at boots i ≡ had
index-at [] i had at = absurd (none-some had at)
index-at (first ∷ boots) zero had at = same_Some first had at
index-at (first ∷ boots) (suc i) had at = index-at boots i had at

module _ (p old : Cores) (seen : p ≡ old) (number boot : ℕ) (below : boot < 2 ^ 64) (had : List ℕ)
    (at : slice_get p.boots number ≡ Some had) where
  -- the parts with this replica and these boots in the place of what stood there
  abbrev placed : Replica → List ℕ → Cores
  placed new after = record p { replicas = slice_set p.replicas number new; boots = slice_set p.boots number after }

  -- a boot that it never had takes memory
  pub restart_takes : number < length p.replicas → had_boot had boot ≡ false
      → TakesMemory (restart_by old number boot (slice_get old.replicas number)).0
  restart_takes there none =
      subst (λ (x : Cores). TakesMemory (restart_by x number boot (slice_get x.replicas number)).0) seen
      (elim (slice_get_cases p.replicas number).1 [
        | inl found ↦ subst (λ (r : Option Replica). TakesMemory (restart_by p number boot r).0) (sym found.2)
            (subst (λ (used : Bool). TakesMemory
            (cond {A = Output × Cores} used (outputs.BootUsed, p) (outputs.Boot boot, with_restarted p number boot)).0)
            (sym (ap (λ (l : List ℕ). had_boot l boot) (index-at p.boots number had at) ∙ none)) refl)
        | inr past ↦ absurd (omega (arith, there, past.0))
      ])

  pub restart_refused : (after : List ℕ) → number < length p.replicas → had_boot had boot ≡ false → after ≡ had
      → MayStep old (Restart number boot) outputs.Memory (record p { boots = slice_set p.boots number after })
  restart_refused after there none same = (
    below,
    inr (
      refl,
      ap (λ (boots : List (List ℕ)). record p { boots = boots })
          (ap (slice_set p.boots number) same ∙ set_same p.boots number had at) ∙ seen,
      restart_takes there none,
    ),
  )

  restart_made : (r new : Replica) (after : List ℕ) → slice_get p.replicas number ≡ Some r → had_boot had boot ≡ false
      → after ≡ had ++ boot ∷ [] → new ≡ replica_started p.primary.schema p.primary.workers number boot
      → MayStep old (Restart number boot) (outputs.Boot boot) (placed new after)
  restart_made r new after there none grown made =
      let is = index-at p.boots number had at in
      let answer : Bool → Output × Cores = λ used. cond used (outputs.BootUsed, p) (outputs.Boot boot, with_restarted p number boot) in
      let told : Replica × List ℕ → Output × Cores = λ x. (outputs.Boot boot, placed x.0 x.1) in
      let stands : ◌≡◌ {A = Replica × List ℕ}
      (replica_started p.primary.schema p.primary.workers number boot, boots_at p.boots number ++ boot ∷ [])
      (new, after) = cc (is, grown, made) in
      subst (λ (x : Cores). MayStep x (Restart number boot) (outputs.Boot boot) (placed new after)) seen
      (below, inl (ap (restart_by p number boot) there ∙ ap answer (ap (λ (l : List ℕ). had_boot l boot) is ∙ none) ∙ ap told stands))

  pub restart_done : (new : Replica) (after : List ℕ) → number < length p.replicas → had_boot had boot ≡ false
      → after ≡ had ++ boot ∷ [] → new ≡ replica_started p.primary.schema p.primary.workers number boot
      → MayStep old (Restart number boot) (outputs.Boot boot) (placed new after)
  restart_done new after there none grown made = elim (slice_get_cases p.replicas number).1 [
    | inl found ↦ restart_made _ new after found.2 none grown made
    | inr past ↦ absurd (omega (arith, there, past.0))
  ]

-- Opening a query, asking for a version and renewing do at a replica of sound parts what they do at its member.
use Rattle.std.proofs.Common.{◌≡◌, ℕ, ◌+◌, ◌^◌, ◌<◌, Bool, true, false, cond, ◌==◌, List, [], ◌∷◌, ◌++◌, length, Option, Some}
use Rattle.std.proofs.Common.{None, Result, Ok, Err, nat_le, refl, sym, ap, subst, ◌∙◌, arith}
use Rattle.std.specs.List.{slice_get, slice_set}
use Rattle.std.specs.Option.{option_map}
use Rattle.std.proofs.lemmas.List.{length-set}
use Rattle.std.proofs.lemmas.Option.{slice_get_within}
use Rattle.rows.specs.declared.commit.Commit.{Commit}
use Rattle.rows.specs.declared.limits.TheConstants.{REPLICAS_MAX, WAITING_QUERIES_MAX}
use Rattle.rows.specs.Shape.{Shape}
use Rattle.rows.specs.Tables.{Tables, shape_in}
use Rattle.rows.specs.Commits.{tables_after}
use Rattle.wire.specs.Laws.{SpelledAreRead}
use Rattle.wire.specs.declared.datagram.Datagram.TheVariants as datagrams
use Rattle.wire.specs.declared.out.Out.{Out}
use Rattle.wire.specs.Reading.{reading}
use Rattle.wire.specs.Spelling.{spelling}
use Rattle.queries.specs.declared.plan.Plan.{Plan}
use Rattle.queries.specs.declared.faults.PlanFault.{PlanFault}
use Rattle.queries.specs.Checking.{checked}
use Rattle.dispatcher.specs.declared.faults.OpenFault.{OpenFault}
use Rattle.dispatcher.specs.declared.faults.OpenFault.TheVariants as faults
use Rattle.dispatcher.specs.declared.faults.AskFault.{AskFault}
use Rattle.dispatcher.specs.declared.faults.AskFault.TheVariants as asks
use Rattle.dispatcher.specs.Feeding.{Tells}
use Rattle.dispatcher.specs.State.{Replica, Batch, Fetched, Protocol, protocol_of, with_protocol}
use Rattle.dispatcher.specs.Protocol.{opens_checked, opens_query, ask_for, with_batch, asks_by, asks_version, renews_by, renews_version}
use Rattle.dispatcher.specs.TableText.{names_of}
use Rattle.dispatcher.specs.Steps.{stepped, opened, asked, renewed}
use Rattle.script.specs.declared.output.Output.{Output}
use Rattle.script.specs.declared.output.Output.TheVariants as outputs
use Rattle.world.specs.Cores.{Cores}
use Rattle.world.specs.Inner.CoreSteps.{with_replica, with_sent, open_by, opening_query, ask_by, asking, renew_by, renewing, sent_one}
use Rattle.world.specs.Steps.{World, Member, open_happens, ask_happens, renew_happens, send, on_member, durable_tables}
use Rattle.world.proofs.Lists.{set-same}
use Rattle.world.specs.Inner.Sound.{Sound, IsFed}
use Rattle.world.proofs.FedLaws.{FedLaws}
use Rattle.world.proofs.Datagrams.{ask-read}
use Rattle.world.specs.Standing.{boots_at, world_of, member_of}
use Rattle.world.proofs.Worlds.{member_at, member-changes, members-asked}
use Rattle.world.proofs.Moves.{Goes, Follows, Sound-replica, Sound-noted, Sound-one}
use Rattle.world.proofs.Replicas.{Follows-goes}

-- ---- opening a query

-- the plan is checked by the tables that are durable at its version
opened-is : (r : Replica) (plan : Plan) (tables : Tables) → (r.broken ≡ false → r.tables ≡ tables)
    → opens_query (protocol_of r) plan (checked (shape_in r.tables) plan)
    ≡ opens_query (protocol_of r) plan (checked (shape_in tables) plan)
opened-is r plan tables same = by r.broken same
  where
    opens : Bool → Tables → Result (ℕ × Protocol) OpenFault
    opens broken it =
        cond broken (Err faults.Broken) (cond (nat_le WAITING_QUERIES_MAX (length r.waiting)) (Err faults.BatchFull)
        (opens_checked (protocol_of r) plan (checked (shape_in it) plan)))

    by : (broken : Bool) → (broken ≡ false → r.tables ≡ tables) → opens broken r.tables ≡ opens broken tables
    by true same = refl
    by false same = ap (opens false) (same refl)

pub query-opens : (laws : FedLaws) (shape : Shape) (p : Cores) (i : ℕ) (plan : Plan) (found : Option Replica) → Sound shape p
    → slice_get p.replicas i ≡ found
    → Follows shape
    (on_member (world_of p) (option_map (member_at p i) found) (λ m. open_happens (world_of p) m
    (opens_query m.protocol plan (checked (shape_in (durable_tables (world_of p) m.protocol.version)) plan))))
    (open_by p i plan found)
query-opens laws shape p i plan None sound here = (refl, sound)
query-opens laws shape p i plan (Some r) sound here =
    subst (λ (step : Result (ℕ × Protocol) OpenFault). Follows shape (open_happens w m step) (opening_query p i (opened r plan)))
    (opened-is r plan (durable_tables w r.version) (λ whole. fed.feeding.tables_are whole
    ∙ ap (λ (s : Shape). tables_after s p.primary.durable r.version) (sym sound.primary_is.shape_is)))
    (by r.broken (nat_le WAITING_QUERIES_MAX (length r.waiting)) (checked (shape_in r.tables) plan) refl)
  where
    w : World
    w = world_of p

    m : Member
    m = member_at p i r

    fed : IsFed shape (names_of p.primary.schema) p.primary.workers p.primary.durable (boots_at p.boots i) i r
    fed = sound.fed i r here

    opens : Bool → Bool → Result (Unit {0}) PlanFault → Result (ℕ × Protocol) OpenFault
    opens broken full check = cond broken (Err faults.Broken) (cond full (Err faults.BatchFull) (opens_checked m.protocol plan check))

    by : (broken full : Bool) (check : Result (Unit {0}) PlanFault) → opened r plan ≡ stepped r (opens broken full check)
        → Follows shape (open_happens w m (opens broken full check)) (opening_query p i (stepped r (opens broken full check)))
    by true full check is = (refl, sound)
    by false true check is = (refl, sound)
    by false false (Err fault) is = (refl, sound)
    by false false (Ok fits) is =
        let count = length r.waiting + 1 in
        let new = with_protocol r (record (protocol_of r) { waiting = r.waiting ++ plan ∷ [] }) in
        Follows-goes shape p i r (outputs.Opened count, member_at p i new) (outputs.Opened count) new sound here refl
        (record { feeding = laws.opening shape p.primary.durable r plan count new fed.feeding is; identity = refl })

-- ---- asking

-- an Ask says nothing of the list
ask-tells : (reads : SpelledAreRead) (shape : Shape) (workers : ℕ) (durable : List Commit) (number boot request : ℕ)
    → number < REPLICAS_MAX → boot < 2 ^ 64 → Tells shape workers durable (reading (spelling (datagrams.Ask number boot request)))
ask-tells reads shape workers durable number boot request number_below boot_below =
    subst (Tells shape workers durable) (sym (ask-read reads number boot request number_below boot_below)) tt

-- the number of a replica that is there
number-below : (shape : Shape) (p : Cores) (i : ℕ) (r : Replica) → Sound shape p → slice_get p.replicas i ≡ Some r → r.number < REPLICAS_MAX
number-below shape p i r sound here =
    let few = sound.few in
    let number = (sound.fed i r here).number_is in
    let within = slice_get_within p.replicas i r here in
    omega arith

module _ (laws : FedLaws) (shape : Shape) (p : Cores) (i : ℕ) (r : Replica) (sound : Sound shape p) (here : slice_get p.replicas i ≡ Some r)
  where
    abbrev w : World
    w = world_of p

    abbrev m : Member
    m = member_at p i r

    abbrev begun : Replica
    begun = with_protocol r (with_batch (protocol_of r))

    asks-anew : asked r ≡ Ok (ask_for r.number r.boot (r.request + 1), begun)
        → Follows shape (ask_happens w m (Ok (ask_for r.number r.boot (r.request + 1), with_batch m.protocol)) None)
        (asking p i None (Ok (ask_for r.number r.boot (r.request + 1), begun)))
    asks-anew taken =
        let out = ask_for r.number r.boot (r.request + 1) in
        let fed = sound.fed i r here in
        let made : List Member → Output × World =
        λ (members : List Member). (sent_one p out.packet, record w { members = members; sent = p.sent ++ out.packet ∷ [] }) in
        let new = member_of (boots_at p.boots i) (length p.primary.durable) begun in
        let noted = slice_set p.asked_at i (length p.primary.durable) in
        let goes : Goes shape p.primary.durable r begun =
        record { feeding = laws.asking shape p.primary.durable r out begun fed.feeding taken; identity = refl } in (
          ap (λ (n : ℕ). made (slice_set w.members n new)) fed.number_is
              ∙ ap made (sym (members-asked p.replicas p.boots p.asked_at i begun (length p.primary.durable) sound.asked_there)),
          Sound-one shape (record (with_replica p i begun) { asked_at = noted }) out.packet
              (Sound-noted shape (with_replica p i begun) noted (Sound-replica shape p i r begun sound here goes)
              (length-set p.asked_at i (length p.primary.durable)))
              (ask-tells laws.steps.reads shape p.primary.workers p.primary.durable r.number r.boot (r.request + 1)
              (number-below shape p i r sound here) fed.boot_is.below),
        )

    asks-again : (batch : Batch) → Follows shape (send w (ask_for r.number r.boot r.request).packet)
        (asking p i (Some batch) (Ok (ask_for r.number r.boot r.request, r)))
    asks-again batch =
        let bytes = (ask_for r.number r.boot r.request).packet in
        let same : with_sent p bytes ≡ with_sent (with_replica p i r) bytes =
        ap (λ (replicas : List Replica). with_sent (record p { replicas = replicas }) bytes) (sym (set-same p.replicas i r here)) in (
          ap (λ (p' : Cores). (sent_one p bytes, world_of p')) same,
          subst (Sound shape) same (Sound-one shape p bytes sound
              (ask-tells laws.steps.reads shape p.primary.workers p.primary.durable r.number r.boot r.request
              (number-below shape p i r sound here) (sound.fed i r here).boot_is.below)),
        )

    -- asking, by its batch
    asks-by : (broken : Bool) (batch : Option Batch) → asked r ≡ stepped r (cond broken (Err asks.Broken) (asks_by m.protocol batch))
        → Follows shape (ask_happens w m (cond broken (Err asks.Broken) (asks_by m.protocol batch)) batch)
        (asking p i batch (stepped r (cond broken (Err asks.Broken) (asks_by m.protocol batch))))
    asks-by true batch is = (refl, sound)
    asks-by false None is = by (length r.waiting == 0) is
      where
        step : Bool → Result (Out × Protocol) AskFault
        step none = cond none (Err asks.Empty) (Ok (ask_for r.number r.boot (r.request + 1), with_batch m.protocol))

        by : (none : Bool) → asked r ≡ stepped r (step none)
            → Follows shape (ask_happens w m (step none) None) (asking p i None (stepped r (step none)))
        by true is = (refl, sound)
        by false is = asks-anew is
    asks-by false (Some batch) is = by batch.fetched
      where
        step : Option Fetched → Result (Out × Protocol) AskFault
        step fetched = asks_by m.protocol (Some (record batch { fetched = fetched }))

        by : (fetched : Option Fetched)
            → Follows shape (ask_happens w m (step fetched) (Some batch)) (asking p i (Some batch) (stepped r (step fetched)))
        by None = asks-again batch
        by (Some fetched) = (refl, sound)

pub version-asked : (laws : FedLaws) (shape : Shape) (p : Cores) (i : ℕ) (found : Option Replica) → Sound shape p
    → slice_get p.replicas i ≡ found
    → Follows shape
    (on_member (world_of p) (option_map (member_at p i) found)
    (λ m. ask_happens (world_of p) m (asks_version m.protocol) m.protocol.batch))
    (ask_by p i found)
version-asked laws shape p i None sound here = (refl, sound)
version-asked laws shape p i (Some r) sound here = asks-by laws shape p i r sound here r.broken r.batch refl

-- ---- renewing

module _ (laws : FedLaws) (shape : Shape) (p : Cores) (i : ℕ) (r : Replica) (sound : Sound shape p) (here : slice_get p.replicas i ≡ Some r)
  where
    abbrev given_up : Batch → Protocol
    given_up batch = record (protocol_of r) {
      request = r.request + 1;
      batch = Some (record { plans = batch.plans; fetched = None });
    }

    renews-anew : (batch : Batch) → renewed r ≡ Ok (ask_for r.number r.boot (r.request + 1), with_protocol r (given_up batch))
        → Follows shape (renew_happens (world_of p) (member_at p i r) (Ok (ask_for r.number r.boot (r.request + 1), given_up batch)))
        (renewing p i (Ok (ask_for r.number r.boot (r.request + 1), with_protocol r (given_up batch))))
    renews-anew batch taken =
        let out = ask_for r.number r.boot (r.request + 1) in
        let new = with_protocol r (given_up batch) in
        let fed = sound.fed i r here in
        let goes : Goes shape p.primary.durable r new =
        record { feeding = laws.renewing shape p.primary.durable r out new fed.feeding taken; identity = refl } in (
          ap (λ (w : World). (sent_one p out.packet, record w { sent = p.sent ++ out.packet ∷ [] }))
              (member-changes p i new fed.number_is),
          Sound-one shape (with_replica p i new) out.packet (Sound-replica shape p i r new sound here goes)
              (ask-tells laws.steps.reads shape p.primary.workers p.primary.durable r.number r.boot (r.request + 1)
              (number-below shape p i r sound here) fed.boot_is.below),
        )

    -- renewing, by its batch
    renews-by : (broken : Bool) (batch : Option Batch)
        → renewed r ≡ stepped r (cond broken (Err asks.Broken) (renews_by (protocol_of r) batch))
        → Follows shape
        (renew_happens (world_of p) (member_at p i r) (cond broken (Err asks.Broken) (renews_by (protocol_of r) batch)))
        (renewing p i (stepped r (cond broken (Err asks.Broken) (renews_by (protocol_of r) batch))))
    renews-by true batch is = (refl, sound)
    renews-by false None is = (refl, sound)
    renews-by false (Some batch) is = by batch.fetched is
      where
        step : Option Fetched → Result (Out × Protocol) AskFault
        step fetched = renews_by (protocol_of r) (Some (record batch { fetched = fetched }))

        by : (fetched : Option Fetched) → renewed r ≡ stepped r (step fetched)
            → Follows shape (renew_happens (world_of p) (member_at p i r) (step fetched)) (renewing p i (stepped r (step fetched)))
        by None is = (refl, sound)
        by (Some fetched) is = renews-anew batch is

pub version-renewed : (laws : FedLaws) (shape : Shape) (p : Cores) (i : ℕ) (found : Option Replica) → Sound shape p
    → slice_get p.replicas i ≡ found
    → Follows shape
    (on_member (world_of p) (option_map (member_at p i) found) (λ m. renew_happens (world_of p) m (renews_version m.protocol)))
    (renew_by p i found)
version-renewed laws shape p i None sound here = (refl, sound)
version-renewed laws shape p i (Some r) sound here = renews-by laws shape p i r sound here r.broken r.batch refl

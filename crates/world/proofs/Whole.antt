-- Each step of sound parts is one of their world, and leaves the parts of one.
use Rattle.std.proofs.Common.{◌≡◌, ℕ, zero, suc, ◌+◌, ◌^◌, ◌<◌, ◌≤◌, Bool, true, false, cond, List, [], ◌∷◌, length, Option}
use Rattle.std.proofs.Common.{Some, None, nat_lt}
use Rattle.std.proofs.Common.{replicate, Result, Ok, Err, refl, sym, ap, subst, ◌∙◌, inl, inr, arith}
use Rattle.std.specs.List.{slice_get, slice_index, AllByRecursion}
use Rattle.std.specs.Option.{option_map}
use Rattle.std.proofs.lemmas.Bool.{false≢true}
use Rattle.std.proofs.lemmas.List.{length-replicate}
use Rattle.std.proofs.lemmas.List.Elements.{Contains-push}
use Rattle.std.proofs.lemmas.Option.{none-some}
use Rattle.rows.specs.declared.limits.TheConstants.{REPLICAS_MAX, WORKERS_MAX}
use Rattle.rows.specs.declared.kind.Kind.{Kind}
use Rattle.rows.specs.Shape.{Shape, AreTables, shape_of}
use Rattle.rows.specs.Commits.{tables_after}
use Rattle.rows.specs.declared.commit.Commit.{Commit}
use Rattle.rows.specs.Commits.{IsLegal}
use Rattle.rows.specs.ImageLaws.{AreSpelled}
use Rattle.update_log.specs.Streams.{stream_of}
use Rattle.wire.specs.declared.out.Out.{Out}
use Rattle.journal.specs.declared.form.Form.{Form}
use Rattle.journal.specs.Recovery.{IsBeginning, IsRecovered}
use Rattle.journal.specs.Text.{journal_text}
use Rattle.primary.specs.Sending.{low_of}
use Rattle.primary.specs.State.{Primary}
use Rattle.dispatcher.specs.declared.faults.AskFault.{AskFault}
use Rattle.dispatcher.specs.declared.faults.DumpFault.{DumpFault}
use Rattle.dispatcher.specs.declared.faults.DumpFault.TheVariants as dumps
use Rattle.dispatcher.specs.declared.faults.OpenFault.{OpenFault}
use Rattle.dispatcher.specs.declared.outcome.Run.{Run}
use Rattle.dispatcher.specs.declared.outcome.Run.TheVariants as runs
use Rattle.queries.specs.declared.plan.Plan.{Plan}
use Rattle.dispatcher.specs.State.{Replica}
use Rattle.dispatcher.specs.Protocol.{fetched_in}
use Rattle.dispatcher.specs.Steps.{started_replica, opened, asked, renewed, dumped, readiness_of, RunsAs, RunsOutOfMemory, MayRun}
use Rattle.dispatcher.specs.TableText.{names_of, table_text}
use Rattle.dispatcher.specs.Feeding.{IsFedFrom}
use Rattle.mvcc.specs.Transactions.{insert_answer, set_answer, delete_answer, add_column_answer, get_answer}
use Rattle.script.specs.declared.event.Event.{Event}
use Rattle.script.specs.declared.event.Event.TheVariants as events
use Rattle.script.specs.declared.event.Node.TheVariants as nodes
use Rattle.script.specs.declared.output.Output.{Output}
use Rattle.script.specs.declared.output.Output.TheVariants as outputs
use Rattle.script.specs.declared.setup.Setup.{Setup}
use Rattle.world.specs.declared.primary_node.PrimaryNode.{PrimaryNode}
use Rattle.world.specs.Cores.{Cores, Opening, new_opening, IsOpeningOn, cores_started, replicas_from, zeros}
use Rattle.world.specs.Inner.Nodes.{IsStoppedOn, opening_of}
use Rattle.world.specs.Inner.CoreSteps.{HappensBeside, KeepsStopped, MayAnswer, MayStep, ReplicaRunsBy, come_by, to_replica, open_by}
use Rattle.world.specs.Inner.CoreSteps.{opening_query}
use Rattle.world.specs.Inner.CoreSteps.{ask_by, asking, renew_by, renewing, run_output, raw_by, version_by, dump_by, of_dumped, restart_by}
use Rattle.world.specs.Inner.CoreSteps.{with_restarted}
use Rattle.world.specs.Theorem.{SaysRows, IsFaultless}
use Rattle.world.specs.Steps.{World, Member, open_transaction, happens, unless_stopped, on_member, deliver_happens, readiness_at}
use Rattle.world.specs.Steps.{run_happens, raw_happens, is_forged, delivered, dump_at, restart_happens, had_boot}
use Rattle.world.specs.Allowed.{MayHappen, RunIsInterruptedAt}
use Rattle.world.specs.Inner.Sound.{Sound, PrimaryListsAreLegal, IsFed}
use Rattle.world.specs.Standing.{boots_at, world_of, members_of, AreFed, JournalStands, JournalStandsAs, LeavesOnJournal}
use Rattle.world.specs.Inner.Undamaged.{IsUndamaged}
use Rattle.world.specs.Inner.Fresh.{Fresh, HasBoot}
use Rattle.world.proofs.Restarts.{restart-follows}
use Rattle.world.specs.Inner.Invariant.{IsRequested, CoresAreKept}
use Rattle.world.proofs.Adding.{reads_same, insert-added, set-added, delete-added, column-added}
use Rattle.world.proofs.FedLaws.{FedLaws}
use Rattle.world.proofs.Worlds.{beside_of, member_at, members-get, world-started}
use Rattle.world.proofs.Moves.{Follows, Sound-apart}
use Rattle.world.proofs.Fresh.{opening-fresh}
use Rattle.world.proofs.Freshness.{step-serves}
use Rattle.world.proofs.Undamaged.{step-fine, opening-undamaged}
use Rattle.world.proofs.Requested.{step-counts, opening-requested, as-many}
use Rattle.world.proofs.Replicas.{bytes-come}
use Rattle.world.proofs.Durable.{journaled-spelled}
use Rattle.world.proofs.Querying.{query-opens, version-asked, version-renewed}
use Rattle.world.proofs.Moving.{TakesMemory, AsksByAnswer}
use Rattle.world.proofs.Running.{replica-runs, readiness-same, ready-takes, cut-ends, Cuts}
use Rattle.world.proofs.Committing.{transactions-begun, change-sound, look-sound, abort-sound, commit-sound, flush-sound, stop-sound}
use Rattle.world.proofs.Committing.{start-sound, base-sound}
use Rattle.world.proofs.Committing.{push-sound, deliver-sound, raw-sound}
use Rattle.world.proofs.Arriving.{sent-means, raw-means}

-- ---- one step

-- a step of the member that stands for a replica
found-member : (shape : Shape) (p : Cores) (i : ℕ) (next : Member → Output × World) (here : Output × Cores)
    → Follows shape (on_member (world_of p) (option_map (member_at p i) (slice_get p.replicas i)) next) here
    → Follows shape (on_member (world_of p) (slice_get (members_of p.replicas p.boots p.asked_at) i) next) here
found-member shape p i next here follows =
    (ap (λ (found : Option Member). on_member (world_of p) found next) (members-get p.replicas p.boots p.asked_at i) ∙ follows.0, follows.1)

bytes-delivered : (laws : FedLaws) (shape : Shape) (p : Cores) (index number : ℕ) (found : Option (List ℕ)) → Sound shape p
    → Fresh (world_of p)
    → slice_get p.sent index ≡ found
    → Follows shape (deliver_happens (world_of p) (nodes.Replica number) found) (come_by p number found)
bytes-delivered laws shape p index number None sound fresh here = (refl, sound)
bytes-delivered laws shape p index number (Some bytes) sound fresh here =
    found-member shape p number _ _
    (bytes-come laws shape p number bytes (slice_get p.replicas number) sound fresh (sent-means shape p sound fresh index bytes here) refl)

-- bytes that are handed over mean what was sent, or nothing, unless they are forged
raw-delivered : (laws : FedLaws) (shape : Shape) (p : Cores) (number : ℕ) (bytes : List ℕ) → Sound shape p → Fresh (world_of p)
    → Follows shape (raw_happens (world_of p) (nodes.Replica number) bytes) (raw_by p number bytes (slice_get p.replicas number))
raw-delivered laws shape p number bytes sound fresh = by (is_forged p.sent bytes) refl
  where
    by : (forged : Bool) → is_forged p.sent bytes ≡ forged
        → Follows shape (cond forged (outputs.Forged, world_of p) (delivered (world_of p) bytes (nodes.Replica number)))
        (cond forged (outputs.Forged, p) (to_replica p number bytes (slice_get p.replicas number)))
    by true e = (refl, sound)
    by false e =
        found-member shape p number _ _
        (bytes-come laws shape p number bytes (slice_get p.replicas number) sound fresh (raw-means shape p bytes sound fresh e) refl)

-- a replica that starts again
restart-made : (laws : FedLaws) (shape : Shape) (p : Cores) (i boot : ℕ) (found : Option Replica) → Sound shape p
    → slice_get p.replicas i ≡ found → boot < 2 ^ 64
    → Follows shape (on_member (world_of p) (option_map (member_at p i) found) (λ m. restart_happens (world_of p) m boot))
    (restart_by p i boot found)
restart-made laws shape p i boot None sound here below = (refl, sound)
restart-made laws shape p i boot (Some r) sound here below =
    restart-follows laws shape p i boot r outputs.BootUsed (outputs.Boot boot) sound here below

-- ---- looks at a replica

version-told : (shape : Shape) (p : Cores) (i : ℕ) (found : Option Replica) → Sound shape p
    → Follows shape
    (on_member (world_of p) (option_map (member_at p i) found) (λ m. (outputs.Version m.protocol.version, world_of p)))
    (version_by p found)
version-told shape p i None sound = (refl, sound)
version-told shape p i (Some r) sound = (refl, sound)

tables-dumped : (laws : FedLaws) (shape : Shape) (p : Cores) (i : ℕ) (found : Option Replica) → Sound shape p
    → slice_get p.replicas i ≡ found
    → Follows shape
    (on_member (world_of p) (option_map (member_at p i) found)
    (λ m. cond m.protocol.broken (outputs.Broken, world_of p)
    (outputs.Dump (dump_at (world_of p) m.protocol.version), world_of p)))
    (dump_by p found)
tables-dumped laws shape p i None sound here = (refl, sound)
tables-dumped laws shape p i (Some r) sound here = (by r.broken refl, sound)
  where
    fed : IsFed shape (names_of p.primary.schema) p.primary.workers p.primary.durable (boots_at p.boots i) i r
    fed = sound.fed i r here

    by : (broken : Bool) → r.broken ≡ broken
        → ◌≡◌ {A = Output × World} (cond broken (outputs.Broken, world_of p) (outputs.Dump (dump_at (world_of p) r.version), world_of p))
        (of_dumped (dumped r), world_of p)
    by true e =
        ap (λ (answer : Result (List ℕ) DumpFault). (of_dumped answer, world_of p))
        (sym (ap (λ (b : Bool). cond b (Err dumps.Broken) (Ok (table_text r.names r.version r.tables))) e))
    by false e =
        ap (λ (answer : Result (List ℕ) DumpFault). (of_dumped answer, world_of p))
        (sym (laws.dump shape p.primary.durable r fed.feeding e
        ∙ ap (λ (x : List (List ℕ) × Shape). Ok (table_text x.0 r.version (tables_after x.1 p.primary.durable r.version)))
        (cc (fed.names_are, sound.primary_is.shape_is))))

-- ---- what a call on a replica leaves

-- a call on a replica leaves the primary and its journal
record Leaves (p new : Cores) : Type 0 where
  primary : new.primary ≡ p.primary
  stopped : new.stopped ≡ p.stopped
  journal : new.journal ≡ p.journal
  form : new.form ≡ p.form

leaves-same : (p : Cores) → Leaves p p
leaves-same p = record { primary = refl; stopped = refl; journal = refl; form = refl }

leaves-keeps : (p new : Cores) → Leaves p new → KeepsStopped p → KeepsStopped new
leaves-keeps p new leaves keeps stopped =
    let parts : (new.primary, new.journal, new.form) ≡ (p.primary, p.journal, p.form) = cc (leaves.primary, leaves.journal, leaves.form) in
    let kept = keeps (sym leaves.stopped ∙ stopped) in (
      kept.0,
      subst (λ (x : Primary × List ℕ × Form). IsRecovered x.0.workers (shape_of x.0.schema) x.1 x.2 x.0.durable kept.0)
          (sym parts) kept.1,
    )

bytes-leave : (p : Cores) (number : ℕ) (bytes : List ℕ) (found : Option Replica) → Leaves p (to_replica p number bytes found).1
bytes-leave p number bytes None = leaves-same p
bytes-leave p number bytes (Some r) = record { primary = refl; stopped = refl; journal = refl; form = refl }

come-leaves : (p : Cores) (number : ℕ) (found : Option (List ℕ)) → Leaves p (come_by p number found).1
come-leaves p number None = leaves-same p
come-leaves p number (Some bytes) = bytes-leave p number bytes (slice_get p.replicas number)

raw-leaves : (p : Cores) (number : ℕ) (bytes : List ℕ) → Leaves p (raw_by p number bytes (slice_get p.replicas number)).1
raw-leaves p number bytes = by (is_forged p.sent bytes)
  where
    by : (forged : Bool)
        → Leaves p (cond {A = Output × Cores} forged (outputs.Forged, p) (to_replica p number bytes (slice_get p.replicas number))).1
    by true = leaves-same p
    by false = bytes-leave p number bytes (slice_get p.replicas number)

restart-leaves : (p : Cores) (number boot : ℕ) (found : Option Replica) → Leaves p (restart_by p number boot found).1
restart-leaves p number boot None = leaves-same p
restart-leaves p number boot (Some r) = by (had_boot (boots_at p.boots number) boot)
  where
    by : (used : Bool) → Leaves p (cond {A = Output × Cores} used (outputs.BootUsed, p) (outputs.Boot boot, with_restarted p number boot)).1
    by true = leaves-same p
    by false = record { primary = refl; stopped = refl; journal = refl; form = refl }

version-leaves : (p : Cores) (found : Option Replica) → Leaves p (version_by p found).1
version-leaves p None = leaves-same p
version-leaves p (Some r) = leaves-same p

dump-leaves : (p : Cores) (found : Option Replica) → Leaves p (dump_by p found).1
dump-leaves p None = leaves-same p
dump-leaves p (Some r) = leaves-same p

open-leaves : (p : Cores) (number : ℕ) (plan : Plan) (found : Option Replica) → Leaves p (open_by p number plan found).1
open-leaves p number plan None = leaves-same p
open-leaves p number plan (Some r) = by (opened r plan)
  where
    by : (answer : Result (ℕ × Replica) OpenFault) → Leaves p (opening_query p number answer).1
    by (Ok done) = record { primary = refl; stopped = refl; journal = refl; form = refl }
    by (Err fault) = leaves-same p

ask-leaves : (p : Cores) (number : ℕ) (found : Option Replica) → Leaves p (ask_by p number found).1
ask-leaves p number None = leaves-same p
ask-leaves p number (Some r) = by (asked r)
  where
    by : (answer : Result (Out × Replica) AskFault) → Leaves p (asking p number r.batch answer).1
    by (Ok done) = record { primary = refl; stopped = refl; journal = refl; form = refl }
    by (Err fault) = leaves-same p

renew-leaves : (p : Cores) (number : ℕ) (found : Option Replica) → Leaves p (renew_by p number found).1
renew-leaves p number None = leaves-same p
renew-leaves p number (Some r) = by (renewed r)
  where
    by : (answer : Result (Out × Replica) AskFault) → Leaves p (renewing p number answer).1
    by (Ok done) = record { primary = refl; stopped = refl; journal = refl; form = refl }
    by (Err fault) = leaves-same p

run-leaves : (p : Cores) (number : ℕ) (answer : Run) (after : Replica) → Leaves p (run_output p number (answer, after)).1
run-leaves p number runs.NoBatch after = record { primary = refl; stopped = refl; journal = refl; form = refl }
run-leaves p number runs.WaitingHead after = record { primary = refl; stopped = refl; journal = refl; form = refl }
run-leaves p number (runs.WaitingPiece piece pull) after = record { primary = refl; stopped = refl; journal = refl; form = refl }
run-leaves p number (runs.Waiting worker seq want) after = record { primary = refl; stopped = refl; journal = refl; form = refl }
run-leaves p number (runs.Answered report) after = record { primary = refl; stopped = refl; journal = refl; form = refl }
run-leaves p number runs.Inconsistent after = record { primary = refl; stopped = refl; journal = refl; form = refl }
run-leaves p number runs.Broken after = record { primary = refl; stopped = refl; journal = refl; form = refl }
run-leaves p number runs.Memory after = record { primary = refl; stopped = refl; journal = refl; form = refl }

-- ---- what may happen

-- a step that may happen, sound parts after it, and while the primary is stopped its journal keeps what is durable
abbrev Happens : Shape → Cores → Event → Output → Cores → Type 0
Happens shape p event output new =
    MayHappen (world_of p) event output (world_of new) × Sound shape new × (KeepsStopped p → KeepsStopped new)

-- what happens beside the replicas, where it leaves sound parts
happens-beside : (shape : Shape) (p : Cores) (event : Event) (output : Output) (new : Cores) → Sound shape p
    → (RunIsInterruptedAt (world_of p) event output (world_of new) → ⊥) → HappensBeside p event output new
    → Sound shape (beside_of (happens (world_of p) event).1 p)
    → Happens shape p event output new
happens-beside shape p event output new sound uncut may after =
    let left : record (beside_of (world_of new) p) { journal = new.journal; form = new.form } ≡ new =
    ap (λ (x : Setup × List Replica × List (List ℕ) × List ℕ). record new { setup = x.0; replicas = x.1; boots = x.2; asked_at = x.3 })
    (cc (may.setup, may.replicas, may.boots, may.asked_at)) in
    let before = beside_of (world_of new) p in (
      may.happens,
      subst (Sound shape) left
          (Sound-apart shape before before.primary.failed before.primary.base before.stopped new.journal new.form (by may.happens)),
      may.kept,
    )
  where
    by : MayHappen (world_of p) event output (world_of new) → Sound shape (beside_of (world_of new) p)
    by (inl made) = subst (λ (x : Output × World). Sound shape (beside_of x.1 p)) made after
    by (inr (inl memory)) = subst (λ (w : World). Sound shape (beside_of w p)) (sym memory.1) sound
    by (inr (inr cut)) = absurd (uncut cut)

-- an event of the primary: nothing happens while it is stopped
happens-served : (shape : Shape) (p : Cores) (event : Event) (next : Output × World) (output : Output) (new : Cores) → Sound shape p
    → (RunIsInterruptedAt (world_of p) event output (world_of new) → ⊥) → (p.stopped ≡ false → PrimaryListsAreLegal p.primary)
    → HappensBeside p event output new → happens (world_of p) event ≡ unless_stopped (world_of p) next
    → (PrimaryListsAreLegal p.primary → Sound shape (beside_of next.1 p))
    → Happens shape p event output new
happens-served shape p event next output new sound uncut lists may is served =
    happens-beside shape p event output new sound uncut may
    (subst (λ (x : Output × World). Sound shape (beside_of x.1 p)) (sym is) (by p.stopped refl))
  where
    by : (stopped : Bool) → p.stopped ≡ stopped → Sound shape (beside_of (cond stopped (outputs.Stopped, world_of p) next).1 p)
    by true e = sound
    by false e = served (lists e)

-- what a call on a replica does, where the world follows it
happens-called : (shape : Shape) (p : Cores) (event : Event) (here : Output × Cores) (output : Output) (new : Cores) → Sound shape p
    → AsksByAnswer (world_of p) event → Follows shape (happens (world_of p) event) here → Leaves p here.1 → MayAnswer p here output new
    → Happens shape p event output new
happens-called shape p event here output new sound asks follows leaves (inl made) =
    subst (λ (x : Output × Cores). Happens shape p event x.0 x.1) made (inl follows.0, follows.1, leaves-keeps p here.1 leaves)
happens-called shape p event here output new sound asks follows leaves (inr memory) = (
  inr (inl (memory.0, ap world_of memory.1, asks _ (subst (λ (x : Output × World). TakesMemory x.0) (sym follows.0) memory.2))),
  subst (Sound shape) (sym memory.1) sound,
  subst (λ (new : Cores). KeepsStopped p → KeepsStopped new) (sym memory.1) (λ keeps. keeps),
)

-- a run that is out of memory in the replica answers nothing that is made with memory
cut-takes : (p : Cores) (i : ℕ) (r : Replica) (answer : Run) (after : Replica) → RunsOutOfMemory r answer after
    → TakesMemory (run_output p i (answer, after)).0 → ⊥
cut-takes p i r answer after wants takes = elim wants.2 [
  | inl memory ↦ false≢true (subst (λ (a : Run). TakesMemory (run_output p i (a, after)).0) memory.0 takes)
  | inr broken ↦ false≢true (subst (λ (a : Run). TakesMemory (run_output p i (a, after)).0) broken.0 takes)
]

-- what a run does, memory aside
run-told : (laws : FedLaws) (shape : Shape) (p : Cores) (i : ℕ) (r : Replica) (answer : Run) (after : Replica) → Sound shape p
    → slice_get p.replicas i ≡ Some r → RunsAs (readiness_of r) r answer after
    → Follows shape (happens (world_of p) (events.Run i)) (run_output p i (answer, after))
run-told laws shape p i r answer after sound here run =
    found-member shape p i _ _
    (subst (λ (found : Option Replica). Follows shape
    (on_member (world_of p) (option_map (member_at p i) found)
    (λ m. run_happens (world_of p) m (readiness_at m)))
    (run_output p i (answer, after))) (sym here) (replica-runs laws shape p i r sound here answer after run))

run-made : (laws : FedLaws) (shape : Shape) (p : Cores) (i : ℕ) (r : Replica) (answer : Run) (after : Replica) → Sound shape p
    → slice_get p.replicas i ≡ Some r → MayRun r answer after
    → Happens shape p (events.Run i) (run_output p i (answer, after)).0 (run_output p i (answer, after)).1
run-made laws shape p i r answer after sound here (inl run) =
    let follows = run-told laws shape p i r answer after sound here run in
    (inl follows.0, follows.1, leaves-keeps p _ (run-leaves p i answer after))
run-made laws shape p i r answer after sound here (inr wants) =
    let ends = cut-ends laws shape p i r sound here answer after wants in
    let new = run_output p i (answer, after) in
    let w = world_of p in
    let there : option_map (member_at p i) (slice_get p.replicas i) ≡ Some (member_at p i r) =
    ap (option_map (member_at p i)) here in
    let at = members-get p.replicas p.boots p.asked_at i ∙ there in
    let same =
    subst (λ (found : Option Member). Cuts w found new.0 (world_of new.1)) (sym at) ends.0 in
    let takes =
    subst (λ (found : Option Member). TakesMemory
    (on_member w found (λ m. run_happens w m (readiness_at m))).0) (sym at)
    (ready-takes w (member_at p i r) wants.0
    (ap fetched_in
    (readiness-same (boots_at p.boots i) (slice_index p.asked_at i) r (sound.fed i r here).feeding.pieces_are.one) ∙ wants.1)) in (
      elim same [ inl memory ↦ inr (inl (memory.0, memory.1, takes)) | inr cut ↦ inr (inr cut) ],
      ends.1,
      leaves-keeps p new.1 (run-leaves p i answer after),
    )

run-follows : (laws : FedLaws) (shape : Shape) (p : Cores) (i : ℕ) (found : Option Replica) (output : Output) (new : Cores) → Sound shape p
    → slice_get p.replicas i ≡ found → ReplicaRunsBy p i found output new → Happens shape p (events.Run i) output new
run-follows laws shape p i None output new sound here run = absurd run
run-follows laws shape p i (Some r) output new sound here run = elim run.3 [
  | inl made ↦ subst (λ (x : Output × Cores). Happens shape p (events.Run i) x.0 x.1) made
      (run-made laws shape p i r run.0 run.1 sound here run.2)
  | inr memory ↦ elim run.2 [
    | inl ran ↦ happens-called shape p (events.Run i) (run_output p i (run.0, run.1)) output new sound (λ answer takes. takes)
        (run-told laws shape p i r run.0 run.1 sound here ran) (run-leaves p i run.0 run.1) (inr memory)
    | inr wants ↦ absurd (cut-takes p i r run.0 run.1 wants memory.2)
  ]
]

module _ (laws : FedLaws) (shape : Shape) (p : Cores) (sound : Sound shape p) (fresh : Fresh (world_of p))
    (lists : p.stopped ≡ false → PrimaryListsAreLegal p.primary) where
  may-follow : (event : Event) (output : Output) (new : Cores) → MayStep p event output new → Happens shape p event output new
  may-follow events.Begin output new may =
      happens-served shape p _ _ output new sound (λ cut. cut) lists may refl (λ lists. transactions-begun shape p sound)
  may-follow (events.Insert transaction table row values) output new may =
      happens-served shape p _ _ output new sound (λ cut. cut) lists may refl
      (λ lists. change-sound shape p transaction
      (λ draft. insert_answer (shape_of p.primary.schema) p.primary.durable draft table row.0 values)
      (open_transaction p.transactions transaction) sound
      (λ draft after h. reads_same _ _ draft _ after
      (insert-added (shape_of p.primary.schema) p.primary.durable draft table row.0 after values h).1) refl)
  may-follow (events.Set transaction table row column value) output new may =
      happens-served shape p _ _ output new sound (λ cut. cut) lists may refl
      (λ lists. change-sound shape p transaction
      (λ draft. set_answer (shape_of p.primary.schema) p.primary.durable draft table row.0 column value)
      (open_transaction p.transactions transaction) sound
      (λ draft after h. reads_same _ _ draft _ after
      (set-added (shape_of p.primary.schema) p.primary.durable draft table row.0 after column value h).1) refl)
  may-follow (events.Delete transaction table row) output new may =
      happens-served shape p _ _ output new sound (λ cut. cut) lists may refl
      (λ lists. change-sound shape p transaction
      (λ draft. delete_answer (shape_of p.primary.schema) p.primary.durable draft table row.0)
      (open_transaction p.transactions transaction) sound
      (λ draft after h. reads_same _ _ draft _ after
      (delete-added (shape_of p.primary.schema) p.primary.durable draft table row.0 after h).1) refl)
  may-follow (events.AddColumn transaction table default) output new may =
      happens-served shape p _ _ output new sound (λ cut. cut) lists may refl
      (λ lists. change-sound shape p transaction
      (λ draft. add_column_answer (shape_of p.primary.schema) p.primary.durable draft table default)
      (open_transaction p.transactions transaction) sound
      (λ draft after h. reads_same _ _ draft _ after
      (column-added (shape_of p.primary.schema) p.primary.durable draft after table default h).1) refl)
  may-follow (events.Get transaction table row column) output new may =
      happens-served shape p _ _ output new sound (λ cut. cut) lists may refl
      (λ lists. look-sound shape p (λ draft. get_answer (shape_of p.primary.schema) p.primary.durable draft table row.0 column)
      (open_transaction p.transactions transaction) sound)
  may-follow (events.Commit transaction worker) output new may =
      happens-served shape p _ _ output new sound (λ cut. cut) lists may refl
      (λ lists. commit-sound shape p transaction worker (open_transaction p.transactions transaction) sound)
  may-follow (events.Abort transaction) output new may =
      happens-served shape p _ _ output new sound (λ cut. cut) lists may refl
      (λ lists. abort-sound shape p transaction (open_transaction p.transactions transaction) sound)
  may-follow (events.Flush count) output new may =
      happens-served shape p _ _ output new sound (λ cut. cut) lists may refl
      (λ lists. flush-sound laws shape p count p.primary.failed _ _ lists sound)
  may-follow events.Base output new may =
      happens-served shape p _ _ output new sound (λ cut. cut) lists may refl (λ lists. base-sound shape p sound)
  may-follow (events.Stop bytes) output new may =
      happens-served shape p _ _ output new sound (λ cut. cut) lists may.0 refl (λ lists. stop-sound laws shape p bytes lists sound)
  may-follow events.Start output new may =
      happens-beside shape p _ output new sound (λ cut. cut) may.0 (start-sound shape p p.stopped sound)
  may-follow (events.Push worker seq) output new may =
      happens-served shape p _ _ output new sound (λ cut. cut) lists may refl
      (λ lists. push-sound laws.steps.reads shape p worker seq (nat_lt seq (low_of p.primary worker))
      (slice_get (stream_of p.primary.durable worker) seq) lists sound refl)
  may-follow (events.Deliver index nodes.Primary) output new may =
      happens-served shape p _ _ output new sound (λ cut. cut) lists may refl
      (λ lists. deliver-sound laws.steps.reads shape p index (slice_get p.sent index) lists sound fresh refl)
  may-follow (events.Deliver index (nodes.Replica number)) output new may =
      happens-called shape p (events.Deliver index (nodes.Replica number)) (come_by p number (slice_get p.sent index)) output new sound
      (λ answer takes. takes)
      (bytes-delivered laws shape p index number (slice_get p.sent index) sound fresh refl)
      (come-leaves p number (slice_get p.sent index)) may
  may-follow (events.Show index) output new may = happens-beside shape p _ output new sound (λ cut. cut) may sound
  may-follow (events.Open replica plan) output new may =
      happens-called shape p (events.Open replica plan) (open_by p replica plan (slice_get p.replicas replica)) output new sound
      (λ answer takes. takes)
      (found-member shape p replica _ _ (query-opens laws shape p replica plan (slice_get p.replicas replica) sound refl))
      (open-leaves p replica plan (slice_get p.replicas replica)) may
  may-follow (events.Ask replica) output new may =
      happens-called shape p (events.Ask replica) (ask_by p replica (slice_get p.replicas replica)) output new sound
      (λ answer takes. takes)
      (found-member shape p replica _ _ (version-asked laws shape p replica (slice_get p.replicas replica) sound refl))
      (ask-leaves p replica (slice_get p.replicas replica)) may
  may-follow (events.Renew replica) output new may =
      happens-called shape p (events.Renew replica) (renew_by p replica (slice_get p.replicas replica)) output new sound
      (λ answer takes. takes)
      (found-member shape p replica _ _ (version-renewed laws shape p replica (slice_get p.replicas replica) sound refl))
      (renew-leaves p replica (slice_get p.replicas replica)) may
  may-follow (events.Run replica) output new may =
      run-follows laws shape p replica (slice_get p.replicas replica) output new sound refl may
  may-follow (events.Version replica) output new may =
      happens-called shape p (events.Version replica) (version_by p (slice_get p.replicas replica)) output new sound
      (λ answer takes. takes)
      (found-member shape p replica _ _ (version-told shape p replica (slice_get p.replicas replica) sound))
      (version-leaves p (slice_get p.replicas replica)) may
  may-follow (events.Dump replica) output new may =
      happens-called shape p (events.Dump replica) (dump_by p (slice_get p.replicas replica)) output new sound
      (λ answer takes. takes)
      (found-member shape p replica _ _ (tables-dumped laws shape p replica (slice_get p.replicas replica) sound refl))
      (dump-leaves p (slice_get p.replicas replica)) may
  may-follow (events.Restart replica boot) output new may =
      happens-called shape p (events.Restart replica boot) (restart_by p replica boot (slice_get p.replicas replica)) output new sound
      (λ answer takes. takes)
      (found-member shape p replica _ _ (restart-made laws shape p replica boot (slice_get p.replicas replica) sound refl may.0))
      (restart-leaves p replica boot (slice_get p.replicas replica)) may.1
  may-follow (events.Raw nodes.Primary bytes) output new may =
      happens-served shape p _ _ output new sound (λ cut. cut) lists may refl
      (λ lists. raw-sound laws.steps.reads shape p bytes lists sound fresh)
  may-follow (events.Raw (nodes.Replica number) bytes) output new may =
      happens-called shape p (events.Raw (nodes.Replica number) bytes) (raw_by p number bytes (slice_get p.replicas number)) output new
      sound (λ answer takes. takes)
      (raw-delivered laws shape p number bytes sound fresh) (raw-leaves p number bytes) may

-- ---- the journal

-- the journal's text, where the primary runs and has not failed
abbrev pub HasText : Cores → Type 0
HasText p =
    p.stopped ≡ false → p.primary.failed ≡ false
    → p.journal ≡ journal_text p.form p.primary.workers (shape_of p.primary.schema) p.primary.durable

-- what a stop leaves on the journal
leaves-bytes : (p : Cores) (event : Event) (output : Output) (new : Cores) → MayStep p event output new → LeavesOnJournal p event new
leaves-bytes p (events.Stop bytes) output new may = may.1
leaves-bytes p events.Start output new may = may.1
leaves-bytes p other output new may = tt

-- where the journal stands
journal-stands : (p : Cores) → KeepsStopped p → HasText p → p.primary.failed ≡ false → JournalStands p
journal-stands p keeps text whole = by p.stopped refl
  where
    by : (stopped : Bool) → p.stopped ≡ stopped → JournalStandsAs p stopped
    by true e = keeps e
    by false e = text e whole

-- ---- the beginning

started-fed : (laws : FedLaws) (schema : List (List ℕ × List Kind)) (workers number : ℕ) (durable : List Commit)
    → IsLegal (shape_of schema) workers durable → AreSpelled durable
    → IsFed (shape_of schema) (names_of schema) workers durable (1 ∷ []) number (started_replica schema workers number 1)
started-fed laws schema workers number durable legal spelled = record {
  feeding = laws.fresh schema durable workers number 1 legal spelled;
  names_are = refl;
  workers_are = refl;
  number_is = refl;
  boot_is = record { had = Contains-push [] 1; below = omega arith };
}

replicas-fed : (laws : FedLaws) (schema : List (List ℕ × List Kind)) (workers number count i : ℕ) (r : Replica) (durable : List Commit)
    → IsLegal (shape_of schema) workers durable → AreSpelled durable → slice_get (replicas_from schema workers number count) i ≡ Some r
    → IsFed (shape_of schema) (names_of schema) workers durable (boots_at (replicate count (1 ∷ [])) i) (number + i) r
replicas-fed laws schema workers number zero i r durable legal spelled h = absurd (none-some r h)
replicas-fed laws schema workers number (suc count) zero r durable legal spelled h =
    let same : started_replica schema workers number 1 ≡ r = cc in
    let index : number ≡ number + 0 = omega arith in
    subst (λ (n : ℕ). IsFed (shape_of schema) (names_of schema) workers durable (1 ∷ []) n r) index
    (subst (IsFed (shape_of schema) (names_of schema) workers durable (1 ∷ []) number) same
    (started-fed laws schema workers number durable legal spelled))
replicas-fed laws schema workers number (suc count) (suc i) r durable legal spelled h =
    let index : suc number + i ≡ number + suc i = omega arith in
    subst (λ (n : ℕ). IsFed (shape_of schema) (names_of schema) workers durable (boots_at (replicate count (1 ∷ [])) i) n r) index
    (replicas-fed laws schema workers (suc number) count i r durable legal spelled h)

length-replicas : (schema : List (List ℕ × List Kind)) (workers number count : ℕ)
    → length (replicas_from schema workers number count) ≡ count
length-replicas schema workers number zero = refl
length-replicas schema workers number (suc count) = ap suc (length-replicas schema workers (suc number) count)

length-zeros : (count : ℕ) → length (zeros count) ≡ count
length-zeros zero = refl
length-zeros (suc count) = ap suc (length-zeros count)

parts-sound : (laws : FedLaws) (opening : Opening) → 0 < opening.setup.workers → opening.setup.workers ≤ WORKERS_MAX
    → opening.setup.replicas ≤ REPLICAS_MAX → IsLegal (shape_of opening.setup.schema) opening.setup.workers opening.durable
    → AreSpelled opening.durable → Sound (shape_of opening.setup.schema) (cores_started opening)
parts-sound laws opening some workers few legal spelled =
    let setup = opening.setup in
    let shape = shape_of setup.schema in
    let count = setup.replicas in
    record {
      setup_is = (refl, refl);
      primary_is = record { shape_is = refl; workers_some = some; workers_few = workers };
      transactions_are = λ i draft here. absurd (none-some (Some draft) here);
      boots_there = length-replicate {A = List ℕ} count (1 ∷ []) ∙ sym (length-replicas setup.schema setup.workers 0 count);
      asked_there = length-zeros count ∙ sym (length-replicas setup.schema setup.workers 0 count);
      few = omega (arith, length-replicas setup.schema setup.workers 0 count);
      fed = λ i r here. let index : 0 + i ≡ i =
          omega arith in
          subst (λ (n : ℕ). IsFed shape (names_of setup.schema) setup.workers opening.durable (boots_at (replicate count (1 ∷ [])) i) n r)
          index
          (replicas-fed laws setup.schema setup.workers 0 count i r opening.durable legal spelled here);
      sent_is = λ i bytes here. absurd (none-some bytes here);
    }

-- ---- where the cores stand

all-from-get : {A : Type 0} (P : A → Type 0) (xs : List A) → ((i : ℕ) (x : A) → slice_get xs i ≡ Some x → P x) → AllByRecursion P xs
all-from-get P [] each = tt
all-from-get P (x ∷ xs) each = (each 0 x refl, all-from-get P xs (λ i y here. each (suc i) y here))

-- each replica of sound parts is fed from what is durable
fed-sound : (p : Cores) → Sound (shape_of p.primary.schema) p → AreFed p
fed-sound p sound =
    all-from-get (IsFedFrom (shape_of p.primary.schema) p.primary.durable) p.replicas (λ i r here. (sound.fed i r here).feeding)

-- ---- what every world keeps

pub started-kept : (laws : FedLaws) (opening : Opening) → AreTables (shape_of opening.setup.schema) → 0 < opening.setup.workers
    → opening.setup.workers ≤ WORKERS_MAX → opening.setup.replicas ≤ REPLICAS_MAX
    → IsLegal (shape_of opening.setup.schema) opening.setup.workers opening.durable → AreSpelled opening.durable
    → length opening.durable < 2 ^ 64 → KeepsStopped (cores_started opening) → CoresAreKept (cores_started opening)
started-kept laws opening tables some workers few legal spelled numbered kept = record {
  journal = kept;
  tables = tables;
  sound = parts-sound laws opening some workers few legal spelled;
  requested = subst IsRequested (sym (world-started opening)) (opening-requested opening.setup opening.durable opening.stopped);
  undamaged = subst IsUndamaged (sym (world-started opening)) (opening-undamaged opening.setup opening.durable opening.stopped);
  fresh = subst Fresh (sym (world-started opening)) (opening-fresh opening.setup opening.durable opening.stopped numbered few);
}

-- the cores of a new world
pub new-kept : (laws : FedLaws) (setup : Setup) → AreTables (shape_of setup.schema) → 0 < setup.workers → setup.workers ≤ WORKERS_MAX
    → setup.replicas ≤ REPLICAS_MAX → CoresAreKept (cores_started (new_opening setup))
new-kept laws setup tables some workers few =
    started-kept laws (new_opening setup) tables some workers few (record { each = tt; defined = refl }) tt (omega arith)
    (λ stopped. absurd (false≢true stopped))

-- what is recovered is legal
recovered-legal : (workers : ℕ) (shape : Shape) (bytes : List ℕ) (form : Form) (commits : List Commit) (bytes_kept : ℕ)
    → IsRecovered workers shape bytes form commits bytes_kept → IsLegal shape workers commits
recovered-legal workers shape bytes form commits bytes_kept (inl ends) =
    subst (IsLegal shape workers) (sym ends.2) (record { each = tt; defined = refl })
recovered-legal workers shape bytes form commits bytes_kept (inr kept) = kept.0.0.is.journaled.legal

-- and its entries have spellings
recovered-spelled : (workers : ℕ) (shape : Shape) (bytes : List ℕ) (form : Form) (commits : List Commit) (bytes_kept : ℕ)
    → IsRecovered workers shape bytes form commits bytes_kept → AreSpelled commits
recovered-spelled workers shape bytes form commits bytes_kept (inl ends) = subst AreSpelled (sym ends.2) tt
recovered-spelled workers shape bytes form commits bytes_kept (inr kept) = journaled-spelled commits kept.0.0.is.journaled.records

-- a world that is opened on a journal
pub opening_on : (setup : Setup) (bytes : List ℕ) (node : PrimaryNode) → IsStoppedOn setup bytes node
    → IsOpeningOn setup bytes (opening_of setup node)
opening_on setup bytes node on = record { setup_is = refl; stopped_is = on.0; journal_is = on.1; kept = on.2; numbered = on.3 }

pub opened-kept : (laws : FedLaws) (setup : Setup) (bytes : List ℕ) (node : PrimaryNode) → AreTables (shape_of setup.schema)
    → 0 < setup.workers → setup.workers ≤ WORKERS_MAX → setup.replicas ≤ REPLICAS_MAX → IsStoppedOn setup bytes node
    → CoresAreKept (cores_started (opening_of setup node))
opened-kept laws setup bytes node tables some workers few on =
    let opening = opening_of setup node in
    let shape = shape_of setup.schema in
    started-kept laws opening tables some workers few
    (recovered-legal setup.workers shape bytes opening.form opening.durable on.2.0 on.2.1)
    (recovered-spelled setup.workers shape bytes opening.form opening.durable on.2.0 on.2.1) on.3
    (λ stopped. (
      on.2.0,
      subst (λ (b : List ℕ). IsRecovered setup.workers shape b opening.form opening.durable on.2.0) (sym on.1) on.2.1,
    ))

-- an event of the cores that starts a replica again gives it a boot of 64 bits
may-boot : (p : Cores) (event : Event) (output : Output) (new : Cores) → MayStep p event output new → HasBoot event
may-boot p (events.Restart replica boot) output new may = may.0
may-boot p other output new may = tt

-- what a step of the parts of a world is, and that it leaves the parts of one
pub record IsKeptStep (old : Cores) (event : Event) (output : Output) (new : Cores) : Type 0 where
  pub happens : MayHappen (world_of old) event output (world_of new)
  pub rows : SaysRows old.primary.durable (world_of old) event output
  pub durable : IsBeginning old.primary.durable new.primary.durable
  pub faultless : IsFaultless output
  pub fed : AreFed new
  pub journal : HasText new → JournalStands new
  pub leaves : LeavesOnJournal old event new
  pub schema : new.primary.schema ≡ old.primary.schema
  pub workers : new.primary.workers ≡ old.primary.workers
  pub replicas : length new.replicas ≡ length old.replicas
  pub kept : CoresAreKept new

pub step-keeps : (laws : FedLaws) (old : Cores) (event : Event) (output : Output) (new : Cores) → CoresAreKept old
    → (old.stopped ≡ false → PrimaryListsAreLegal old.primary) → MayStep old event output new → IsKeptStep old event output new
step-keeps laws old event output new kept lists may =
    let shape = shape_of old.primary.schema in
    let first = may-follow laws shape old kept.sound kept.fresh lists event output new may in
    let same = first.1.primary_is.shape_is in
    let sound = subst (λ (s : Shape). Sound s new) (sym same) first.1 in
    let fine = step-fine laws.steps (world_of old) event output (world_of new) first.0 in
    let serves = step-serves laws.steps (world_of old) event output (world_of new) (may-boot old event output new may) kept.fresh first.0 in
    let stays = step-counts (world_of old) event output (world_of new) first.0 in
    let undamaged = fine.undamaged kept.undamaged in
    let journal = first.2 kept.journal in
    record {
      happens = first.0;
      rows = serves.rows;
      durable = fine.grows;
      faultless = fine.output kept.undamaged;
      fed = fed-sound new sound;
      journal = λ text. journal-stands new journal text undamaged.whole;
      leaves = leaves-bytes old event output new may;
      schema = stays.schema;
      workers = stays.workers;
      replicas = sym (as-many new) ∙ stays.members ∙ as-many old;
      kept = record {
        journal = journal;
        tables = subst AreTables (sym same) kept.tables;
        sound = sound;
        requested = stays.requested kept.requested;
        undamaged = undamaged;
        fresh = serves.fresh;
      };
    }

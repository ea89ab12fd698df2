-- Only for proofs: what the call that an event is answers and leaves. Beside the replicas that is what happens in the world;
-- what a call on a replica does is told by the replica's own definitions.
use Rattle.std.specs.Prelude.{◌≡◌, ℕ, List, [], ◌∷◌, ◌++◌, length, true, Option, None, Some, Result, Ok, Err, slice_get, slice_set, ◌⊎◌}
use Rattle.std.specs.Prelude.{◌^◌, ◌<◌, if◌then◌else◌}
use Rattle.rows.specs.declared.commit.Commit.{Commit}
use Rattle.rows.specs.Shape.{Shape}
use Rattle.mvcc.specs.declared.faults.TxFault.{TxFault}
use Rattle.mvcc.specs.Transaction.{Transaction}
use Rattle.mvcc.specs.Transactions.{insert_answer, set_answer, delete_answer, add_column_answer}
use Rattle.wire.specs.declared.out.Out.{Out}
use Rattle.queries.specs.declared.plan.Plan.{Plan}
use Rattle.dispatcher.specs.declared.faults.OpenFault.{OpenFault}
use Rattle.dispatcher.specs.declared.faults.AskFault.{AskFault}
use Rattle.dispatcher.specs.declared.faults.DumpFault.{DumpFault}
use Rattle.dispatcher.specs.declared.outcome.Got.{Got}
use Rattle.dispatcher.specs.declared.outcome.Run.{Run}
use Rattle.dispatcher.specs.declared.outcome.Run.TheVariants as runs
use Rattle.dispatcher.specs.State.{Replica, Batch as ReplicaBatch}
use Rattle.dispatcher.specs.Steps.{started_replica as replica_started, opened, asked, renewed, received, dumped, MayRun}
use Rattle.script.specs.declared.event.Event.{Event}
use Rattle.script.specs.declared.event.Event.TheVariants as events
use Rattle.script.specs.declared.event.Node.TheVariants as nodes
use Rattle.script.specs.declared.output.Output.{Output}
use Rattle.script.specs.declared.output.Output.TheVariants as outputs
use Rattle.world.specs.Outputs.{of_answers, packets_of, of_open, of_ask, of_got}
use Rattle.world.specs.Inner.Naming.{of_dump}
use Rattle.world.specs.Cores.{Cores}
use Rattle.world.specs.Allowed.{MayHappen, takes_memory}
use Rattle.world.specs.Standing.{boots_at, world_of, JournalKeeps, LeavesOnJournal}
use Rattle.world.specs.Steps.{is_forged, had_boot}

-- ---- beside the replicas

-- while the primary is stopped, its journal keeps what is durable
abbrev pub KeepsStopped : Cores → Type 0
KeepsStopped p = p.stopped ≡ true → JournalKeeps p

-- what happens in the world, where the replicas, their boots and what is noted of them stay
pub record HappensBeside (old : Cores) (event : Event) (output : Output) (new : Cores) : Type 0 where
  pub happens : MayHappen (world_of old) event output (world_of new)
  pub setup : new.setup ≡ old.setup
  pub replicas : new.replicas ≡ old.replicas
  pub boots : new.boots ≡ old.boots
  pub asked_at : new.asked_at ≡ old.asked_at
  pub kept : KeepsStopped old → KeepsStopped new

-- ---- calls on a transaction

-- an event that changes the transaction of this number
abbrev pub ChangesTransaction : ℕ → Event → Type 0
ChangesTransaction number (events.Insert transaction table row values) = number ≡ transaction
ChangesTransaction number (events.Set transaction table row column value) = number ≡ transaction
ChangesTransaction number (events.Delete transaction table row) = number ≡ transaction
ChangesTransaction number (events.AddColumn transaction table default) = number ≡ transaction
ChangesTransaction number other = ⊥

-- what such an event makes of its transaction
abbrev pub change_answer : Shape → List Commit → Event → Transaction → Result Transaction TxFault
change_answer shape commits (events.Insert transaction table row values) draft = insert_answer shape commits draft table row.0 values
change_answer shape commits (events.Set transaction table row column value) draft = set_answer shape commits draft table row.0 column value
change_answer shape commits (events.Delete transaction table row) draft = delete_answer shape commits draft table row.0
change_answer shape commits (events.AddColumn transaction table default) draft = add_column_answer shape commits draft table default
change_answer shape commits other draft = Ok draft

-- ---- calls on a replica

-- one more datagram is sent
abbrev pub with_sent : Cores → List ℕ → Cores
with_sent p bytes = record p { sent = p.sent ++ bytes ∷ [] }

abbrev pub sent_one : Cores → List ℕ → Output
sent_one p bytes = outputs.Sent (record { index = length p.sent; len = length bytes } ∷ [])

abbrev pub with_replica : Cores → ℕ → Replica → Cores
with_replica p number replica = record p { replicas = slice_set p.replicas number replica }

abbrev pub got_by : Cores → ℕ → Got × Replica → Output × Cores
got_by p number got = (of_got got.0, with_replica p number got.1)

abbrev pub to_replica : Cores → ℕ → List ℕ → Option Replica → Output × Cores
to_replica p number bytes None = (outputs.Ignored, p)
to_replica p number bytes (Some replica) = got_by p number (received replica bytes)

-- the bytes of a datagram that was sent come to a replica
abbrev pub come_by : Cores → ℕ → Option (List ℕ) → Output × Cores
come_by p number None = (outputs.NeverSent, p)
come_by p number (Some bytes) = to_replica p number bytes (slice_get p.replicas number)

abbrev pub opening_query : Cores → ℕ → Result (ℕ × Replica) OpenFault → Output × Cores
opening_query p number (Ok opened) = (outputs.Opened opened.0, with_replica p number opened.1)
opening_query p number (Err fault) = (of_open fault, p)

abbrev pub open_by : Cores → ℕ → Plan → Option Replica → Output × Cores
open_by p number plan None = (outputs.Ignored, p)
open_by p number plan (Some replica) = opening_query p number (opened replica plan)

-- an ask that makes a batch notes what is durable at it; one that repeats a batch's Ask leaves that note
abbrev pub asked_durable : Cores → ℕ → Option ReplicaBatch → List ℕ
asked_durable p number None = slice_set p.asked_at number (length p.primary.durable)
asked_durable p number (Some batch) = p.asked_at

abbrev pub asking : Cores → ℕ → Option ReplicaBatch → Result (Out × Replica) AskFault → Output × Cores
asking p number batch (Ok asked) = (
  sent_one p asked.0.packet,
  record p {
    replicas = slice_set p.replicas number asked.1;
    sent = p.sent ++ asked.0.packet ∷ [];
    asked_at = asked_durable p number batch;
  },
)
asking p number batch (Err fault) = (of_ask fault, p)

abbrev pub ask_by : Cores → ℕ → Option Replica → Output × Cores
ask_by p number None = (outputs.Ignored, p)
ask_by p number (Some replica) = asking p number replica.batch (asked replica)

abbrev pub renewing : Cores → ℕ → Result (Out × Replica) AskFault → Output × Cores
renewing p number (Ok done) = (sent_one p done.0.packet, with_sent (with_replica p number done.1) done.0.packet)
renewing p number (Err fault) = (of_ask fault, p)

abbrev pub renew_by : Cores → ℕ → Option Replica → Output × Cores
renew_by p number None = (outputs.Ignored, p)
renew_by p number (Some replica) = renewing p number (renewed replica)

-- the boots with one more of a replica
abbrev pub with_boot : List (List ℕ) → ℕ → ℕ → List (List ℕ)
with_boot boots number boot = slice_set boots number (boots_at boots number ++ boot ∷ [])

-- a replica starts again in this boot, also where it was broken
abbrev pub with_restarted : Cores → ℕ → ℕ → Cores
with_restarted p number boot = record p {
  replicas = slice_set p.replicas number (replica_started p.primary.schema p.primary.workers number boot);
  boots = with_boot p.boots number boot;
}

abbrev pub restart_by : Cores → ℕ → ℕ → Option Replica → Output × Cores
restart_by p number boot None = (outputs.Ignored, p)
restart_by p number boot (Some replica) =
    if had_boot (boots_at p.boots number) boot then (outputs.BootUsed, p) else (outputs.Boot boot, with_restarted p number boot)

-- what a run answers that waits for a frame, by the bytes of its Want
abbrev pub waiting_for : Cores → ℕ → ℕ → List ℕ → Output
waiting_for p worker seq bytes = outputs.Waiting worker seq (record { index = length p.sent; len = length bytes })

-- and one that waits for a piece, by the bytes of its Pull
abbrev pub waiting_for_piece : Cores → ℕ → List ℕ → Output
waiting_for_piece p number bytes = outputs.WaitingPiece number (record { index = length p.sent; len = length bytes })

-- a run that waits for a frame sends its Want, and one that waits for a piece its Pull
abbrev pub run_output : Cores → ℕ → Run × Replica → Output × Cores
run_output p number (runs.NoBatch, replica) = (outputs.NoBatch, with_replica p number replica)
run_output p number (runs.WaitingHead, replica) = (outputs.WaitingHead, with_replica p number replica)
run_output p number (runs.WaitingPiece piece pull, replica) = (
  waiting_for_piece p piece pull.packet,
  with_sent (with_replica p number replica) pull.packet,
)
run_output p number (runs.Waiting worker seq want, replica) = (
  waiting_for p worker seq want.packet,
  with_sent (with_replica p number replica) want.packet,
)
run_output p number (runs.Answered report, replica) = (outputs.Report report, with_replica p number replica)
run_output p number (runs.Inconsistent, replica) = (outputs.Inconsistent, with_replica p number replica)
run_output p number (runs.Broken, replica) = (outputs.Broken, with_replica p number replica)
run_output p number (runs.Memory, replica) = (outputs.Memory, with_replica p number replica)

-- what sending the primary's answers tells and leaves: out of memory nothing is sent
abbrev pub MaySendAnswers : Cores → List Out → Output → Cores → Type 0
MaySendAnswers old outs output new =
    ((output ≡ of_answers (length old.sent) outs) × (new ≡ record old { sent = old.sent ++ packets_of outs }))
    ⊎ ((output ≡ outputs.Memory) × (new ≡ old) × (0 < length outs))

-- bytes that are handed to a replica, unless they are forged
abbrev pub raw_by : Cores → ℕ → List ℕ → Option Replica → Output × Cores
raw_by p number bytes found = if is_forged p.sent bytes then (outputs.Forged, p) else to_replica p number bytes found

-- ---- looks at a replica

abbrev pub version_by : Cores → Option Replica → Output × Cores
version_by p None = (outputs.Ignored, p)
version_by p (Some replica) = (outputs.Version replica.version, p)

abbrev pub of_dumped : Result (List ℕ) DumpFault → Output
of_dumped (Ok text) = outputs.Dump text
of_dumped (Err fault) = of_dump fault

abbrev pub dump_by : Cores → Option Replica → Output × Cores
dump_by p None = (outputs.Ignored, p)
dump_by p (Some replica) = (of_dumped (dumped replica), p)

-- ---- any event

-- what a call answers and leaves; or `memory` in place of an answer that is made with some, and nothing has changed
abbrev pub MayAnswer : Cores → Output × Cores → Output → Cores → Type 0
MayAnswer old answer output new = (answer ≡ (output, new)) ⊎ ((output ≡ outputs.Memory) × (new ≡ old) × (takes_memory answer.0 ≡ true))

-- what running the batch of a replica answers and leaves; one that is out of memory may have applied what it fetched, or may
-- be broken
abbrev pub ReplicaRunsBy : Cores → ℕ → Option Replica → Output → Cores → Type 0
ReplicaRunsBy old number None output new = ⊥
ReplicaRunsBy old number (Some replica) output new =
    (answer : Run) × (after : Replica) × MayRun replica answer after × MayAnswer old (run_output old number (answer, after)) output new

abbrev pub MayStep : Cores → Event → Output → Cores → Type 0
MayStep old (events.Deliver index (nodes.Replica number)) output new =
    MayAnswer old (come_by old number (slice_get old.sent index)) output new
MayStep old (events.Open replica plan) output new = MayAnswer old (open_by old replica plan (slice_get old.replicas replica)) output new
MayStep old (events.Ask replica) output new = MayAnswer old (ask_by old replica (slice_get old.replicas replica)) output new
MayStep old (events.Renew replica) output new = MayAnswer old (renew_by old replica (slice_get old.replicas replica)) output new
MayStep old (events.Run replica) output new = ReplicaRunsBy old replica (slice_get old.replicas replica) output new
MayStep old (events.Version replica) output new = MayAnswer old (version_by old (slice_get old.replicas replica)) output new
MayStep old (events.Dump replica) output new = MayAnswer old (dump_by old (slice_get old.replicas replica)) output new
MayStep old (events.Restart number boot) output new =
    (boot < 2 ^ 64) × MayAnswer old (restart_by old number boot (slice_get old.replicas number)) output new
MayStep old (events.Raw (nodes.Replica number) bytes) output new =
    MayAnswer old (raw_by old number bytes (slice_get old.replicas number)) output new
MayStep old (events.Stop bytes) output new =
    HappensBeside old (events.Stop bytes) output new × LeavesOnJournal old (events.Stop bytes) new
MayStep old events.Start output new = HappensBeside old events.Start output new × LeavesOnJournal old events.Start new
MayStep old other output new = HappensBeside old other output new

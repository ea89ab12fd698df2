-- What a replica's node does while it serves.
use Rattle.std.specs.Prelude.{◌≡◌, ◌≤◌, ℕ, List, [], ◌∷◌, ◌++◌, length, map, sum, min, Bool, Option, None, Some, Result, Ok, Err, IfOk}
use Rattle.std.specs.List.{flat_map, sum_by, Contains}
use mathlib.Core.List.{IsPrefix}
use Rattle.wire.specs.declared.datagram.Datagram.{Datagram}
use Rattle.wire.specs.declared.datagram.Datagram.TheVariants as datagrams
use Rattle.wire.specs.declared.faults.WireFault.{WireFault}
use Rattle.wire.specs.declared.out.Out.{Out}
use Rattle.wire.specs.Reading.{reading}
use Rattle.queries.specs.declared.plan.Plan.{Plan}
use Rattle.update_log.specs.Limits.{want_frames_max}
use Rattle.dispatcher.specs.State.{Replica}
use Rattle.dispatcher.specs.Steps.{opened, asked, renewed, received, MayTake, MayRun}
use Rattle.dispatcher.specs.Protocol.{want_for, pull_for}
use Rattle.dispatcher.specs.Gaps.{gaps_of, piece_gaps_of, image_base_of}
use Rattle.dispatcher.specs.declared.gaps.Gap.{Gap}
use Rattle.dispatcher.specs.declared.faults.OpenFault.{OpenFault}
use Rattle.dispatcher.specs.declared.outcome.Got.{Got}
use Rattle.dispatcher.specs.declared.outcome.Got.TheVariants as gots
use Rattle.dispatcher.specs.declared.outcome.Run.{Run}
use Rattle.dispatcher.specs.declared.outcome.Run.TheVariants as outcomes
use Rattle.queue.specs.declared.moves.Moves.{Moves}
use Rattle.queue.specs.declared.moves.Queued.{Queued}
use Rattle.queue.specs.Rule.{plan_in}
use Rattle.sockets.specs.Serving.{Act, Serves, heard_in, sendings_in}
use Rattle.sockets.specs.State.{ReplicaState}
use Rattle.sockets.specs.Traffic.{with_more, stored_as, ignored_as}
use Rattle.sockets.specs.declared.traffic.Traffic.{Traffic}
use Rattle.sockets.specs.declared.traffic.Counted.{Counted}
use Rattle.sockets.specs.declared.traffic.Counted.TheVariants.{Stored, Ignored, Other}
use Rattle.sockets.specs.declared.turned.Turned.{Turned}
use Rattle.sockets.specs.declared.turned.Turned.TheVariants.{Answered, Waits, Idle}
use Rattle.sockets.specs.declared.faults.ServeFault.{ServeFault}
use Rattle.sockets.specs.declared.faults.ServeFault.TheVariants.{Socket, Broken, Memory}

-- a call on the core: a query is offered, and dropped if it does not fit; an Ask, which is sent; bytes that came, with the replica's
-- answer; a run of the batch; a gap in frames, whose Want is sent; one in the pieces of an image, whose Pull is; the fetched version is
-- given up, and the next Ask sent
pub data Call : Type 0 where
  Offers : Plan → Call
  Asks : Out → Call
  Hears : List ℕ → Got → Call
  Runs : Run → Call
  Wants : Gap → Out → Call
  Pulls : (base : ℕ) → Gap → Out → Call
  Renews : Out → Call

-- the replica after a query was opened or dropped
abbrev pub after_offer : Replica → Result (ℕ × Replica) OpenFault → Replica
after_offer old (Ok done) = done.1
after_offer old (Err fault) = old

-- what a call makes of the replica: the dispatcher's own definitions
abbrev pub Makes : Replica → Call → Replica → Type 0
Makes old (Offers plan) new = new ≡ after_offer old (opened old plan)
Makes old (Asks out) new = asked old ≡ Ok (out, new)
Makes old (Hears bytes got) new = MayTake old (received old bytes) got new
Makes old (Runs run) new = MayRun old run new
Makes old (Wants gap out) new =
    (new ≡ old) × Contains (gaps_of want_frames_max old) gap × (out ≡ want_for old.number gap.worker gap.seq)
Makes old (Pulls base gap out) new =
    (new ≡ old) × (image_base_of old ≡ Some base) × Contains (piece_gaps_of want_frames_max old) gap
    × (out ≡ pull_for old.number base gap.seq)
Makes old (Renews out) new = renewed old ≡ Ok (out, new)

-- the datagrams that a call is given
abbrev pub hears : Call → List (List ℕ)
hears (Hears bytes got) = bytes ∷ []
hears (Offers plan) = []
hears (Asks out) = []
hears (Runs run) = []
hears (Wants gap out) = []
hears (Pulls base gap out) = []
hears (Renews out) = []

-- the datagrams that are to be sent for a call
abbrev pub says : Call → List Out
says (Asks out) = out ∷ []
says (Wants gap out) = out ∷ []
says (Pulls base gap out) = out ∷ []
says (Renews out) = out ∷ []
says (Offers plan) = []
says (Hears bytes got) = []
says (Runs run) = []

-- the report of a run
abbrev pub reported : Run → List (List ℕ)
reported (outcomes.Answered report) = report ∷ []
reported other = []

abbrev pub reports : Call → List (List ℕ)
reports (Runs run) = reported run
reports (Offers plan) = []
reports (Asks out) = []
reports (Hears bytes got) = []
reports (Wants gap out) = []
reports (Pulls base gap out) = []
reports (Renews out) = []

abbrev pub reports_in : List (Act Call) → List (List ℕ)
reports_in acts = flat_map (λ act. reports act.call) acts

-- the queries that were offered
abbrev pub offers : Call → List Plan
offers (Offers plan) = plan ∷ []
offers (Asks out) = []
offers (Hears bytes got) = []
offers (Runs run) = []
offers (Wants gap out) = []
offers (Pulls base gap out) = []
offers (Renews out) = []

abbrev pub offers_in : List (Act Call) → List Plan
offers_in acts = flat_map (λ act. offers act.call) acts

-- how bytes are counted that the replica answered so
abbrev pub counted_as : Got → Counted
counted_as gots.Stored = Stored
counted_as gots.Ignored = Ignored
counted_as other = Other

-- how many of the bytes that came the replica stored, and how many it ignored
abbrev pub stored : Call → ℕ
stored (Hears bytes got) = stored_as (counted_as got)
stored (Offers plan) = 0
stored (Asks out) = 0
stored (Runs run) = 0
stored (Wants gap out) = 0
stored (Pulls base gap out) = 0
stored (Renews out) = 0

abbrev pub ignored : Call → ℕ
ignored (Hears bytes got) = ignored_as (counted_as got)
ignored (Offers plan) = 0
ignored (Asks out) = 0
ignored (Runs run) = 0
ignored (Wants gap out) = 0
ignored (Pulls base gap out) = 0
ignored (Renews out) = 0

-- what went through the port after these acts
abbrev pub traffic_after : Traffic → List (Act Call) → Traffic
traffic_after traffic acts =
    with_more traffic (length (heard_in hears acts)) (sum_by (λ act. stored act.call) acts) (sum_by (λ act. ignored act.call) acts)
    (sendings_in acts)

-- how many frames there are of all workers at a Head, as far as 64 bits can tell
abbrev pub frames_at : Result Datagram WireFault → Option ℕ
frames_at (Ok (datagrams.Head head)) = Some (min 18446744073709551615 (sum head.counts))
frames_at other = None

-- how many are expected after bytes that the replica answered so: those at the newest Head that it took
abbrev pub expected_of : Option ℕ → List ℕ → Got → Option ℕ
expected_of expected bytes (gots.Head version) = frames_at (reading bytes)
expected_of expected bytes other = expected

abbrev pub expected_by : Option ℕ → Call → Option ℕ
expected_by expected (Hears bytes got) = expected_of expected bytes got
expected_by expected (Offers plan) = expected
expected_by expected (Asks out) = expected
expected_by expected (Runs run) = expected
expected_by expected (Wants gap out) = expected
expected_by expected (Pulls base gap out) = expected
expected_by expected (Renews out) = expected

abbrev pub expected_after : Option ℕ → List (Act Call) → Option ℕ
expected_after expected [] = expected
expected_after expected (act ∷ acts) = expected_after (expected_by expected act.call) acts

-- 1 for a run of the batch
abbrev pub runs : Call → ℕ
runs (Runs run) = 1
runs (Offers plan) = 0
runs (Asks out) = 0
runs (Hears bytes got) = 0
runs (Wants gap out) = 0
runs (Pulls base gap out) = 0
runs (Renews out) = 0

-- what is handed on as a report
abbrev pub handed : Result (Option (List ℕ)) ServeFault → List (List ℕ)
handed (Ok (Some report)) = report ∷ []
handed (Ok None) = []
handed (Err fault) = []

-- the report of a turn
abbrev pub report_of : Result Turned ServeFault → List (List ℕ)
report_of (Ok (Answered report)) = report ∷ []
report_of (Ok Waits) = []
report_of (Ok Idle) = []
report_of (Err fault) = []

-- 1 for a turn that did not fail
abbrev pub turn_of : {A : Type 0} → Result A ServeFault → ℕ
turn_of (Ok done) = 1
turn_of (Err fault) = 0

-- how many receives have failed: the one that ended the call, if it was one
abbrev pub failed_receives : ServeFault → ℕ
failed_receives Socket = 1
failed_receives Broken = 0
failed_receives Memory = 0

abbrev pub failures : {A : Type 0} → Result A ServeFault → ℕ
failures (Ok done) = 0
failures (Err fault) = failed_receives fault

-- what a replica's node has done: it has done acts, with what its port has carried and the node has counted; so many receives have
-- failed, these reports were given, these queries offered, and the batch was run so many times or more
pub record DoesReplica {P : Type 0} (is_honest : Bool) (came_at : P → List (List ℕ)) (sent_at : P → List Out) (faults_at : P → ℕ)
    (old new : ReplicaState P) (failed : ℕ) (given : List (List ℕ)) (offered : List Plan) (turned : ℕ) : Type 0 where
  pub acts : List (Act Call)
  pub serves : Serves Makes hears says is_honest came_at sent_at faults_at old.port new.port old.core new.core acts failed
  pub gives : reports_in acts ≡ given
  pub queries : offers_in acts ≡ offered
  pub counts : new.traffic ≡ traffic_after old.traffic acts
  pub expects : new.expected ≡ expected_after old.expected acts
  pub has_run : turned ≤ sum_by (λ act. runs act.call) acts

-- queries were offered to it, in order, and nothing else was done: all of these, unless the call has failed
pub record OffersOf {P : Type 0} (is_honest : Bool) (came_at : P → List (List ℕ)) (sent_at : P → List Out) (faults_at : P → ℕ)
    (old new : ReplicaState P) (plans : List Plan) (result : Result (Unit {0}) ServeFault) : Type 0 where
  pub offered : List Plan
  pub does : DoesReplica is_honest came_at sent_at faults_at old new 0 [] offered 0
  pub in_order : IsPrefix offered plans
  pub all : IfOk result (λ _. offered ≡ plans)
  pub alone : new ≡ record old { core = new.core }
  pub no_failure : failures result ≡ 0

-- queries were taken from the queue with a pass, and offered in order: all of them, unless the call has failed meanwhile
pub record Takes {A : Type 0} (old new : Moves) (offered : List Plan) (result : Result A ServeFault) : Type 0 where
  pub added : List Queued
  pub more : new.taken ≡ old.taken ++ added
  pub same : new.put ≡ old.put
  pub in_order : IsPrefix offered (map plan_in added)
  pub all : IfOk result (λ _. offered ≡ map plan_in added)

-- what a replica's node has done that is given a queue, in so many turns, with a report or without: the queries of the queue were
-- offered, and each report was handed on
pub record ServesReplica {P : Type 0} (is_honest : Bool) (came_at : P → List (List ℕ)) (sent_at : P → List Out) (faults_at : P → ℕ)
    (old new : ReplicaState P) (old_moves new_moves : Moves) (turned : ℕ) (result : Result (Option (List ℕ)) ServeFault)
    : Type 0 where
  pub offered : List Plan
  pub does : DoesReplica is_honest came_at sent_at faults_at old new (failures result) (handed result) offered turned
  pub takes : Takes old_moves new_moves offered result

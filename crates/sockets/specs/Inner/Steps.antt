-- What the steps of a replica's turn do: parts of what its node does.
use Rattle.std.specs.Prelude.{◌≡◌, ℕ, List, [], ◌∷◌, Bool, Result, Ok, Err, IfOk}
use mathlib.Core.List.{IsPrefix}
use Rattle.wire.specs.declared.out.Out.{Out}
use Rattle.queries.specs.declared.plan.Plan.{Plan}
use Rattle.dispatcher.specs.State.{Replica}
use Rattle.dispatcher.specs.declared.outcome.Got.{Got}
use Rattle.dispatcher.specs.declared.outcome.Got.TheVariants as gots
use Rattle.queue.specs.declared.moves.Moves.{Moves}
use Rattle.sockets.specs.State.{ReplicaState}
use Rattle.sockets.specs.Serving.{Act, DoesAll}
use Rattle.sockets.specs.Replicas.{Call, Offers, Makes, says, DoesReplica, failures, Takes}
use Rattle.sockets.specs.declared.faults.ServeFault.{ServeFault}
use Rattle.sockets.specs.declared.faults.ServeFault.TheVariants.{Broken}
use Rattle.sockets.specs.declared.replica_node.Heard.{Heard}
use Rattle.sockets.specs.declared.replica_node.Heard.TheVariants as heard
use Rattle.sockets.specs.declared.replica_node.Ran.{Ran}
use Rattle.sockets.specs.declared.replica_node.Ran.TheVariants.{Answered}

-- the report of a run
abbrev pub report_in : Result Ran ServeFault → List (List ℕ)
report_in (Ok (Answered report)) = report ∷ []
report_in other = []

-- what was heard of bytes that the replica answered so
abbrev pub heard_as : Got → Result Heard ServeFault
heard_as gots.Broken = Err Broken
heard_as (gots.Head version) = Ok heard.Head
heard_as other = Ok heard.Datagram

-- the acts by which queries are offered
abbrev pub offer_acts : List Plan → List (Act Call)
offer_acts [] = []
offer_acts (plan ∷ plans) = record { call = Offers plan; sendings = [] } ∷ offer_acts plans

-- queries were offered to a replica
pub record Opens (old new : Replica) (offered : List Plan) : Type 0 where
  pub done : DoesAll Makes says old (offer_acts offered) new

-- of these queries, in order: all of them, unless the call has failed
pub record OpensOf (old new : Replica) (plans : List Plan) (result : Result (Unit {0}) ServeFault) : Type 0 where
  pub offered : List Plan
  pub opens : Opens old new offered
  pub in_order : IsPrefix offered plans
  pub all : IfOk result (λ _. offered ≡ plans)
  pub no_failure : failures result ≡ 0

-- queries of the queue were taken and offered
pub record OffersTaken {P : Type 0} (is_honest : Bool) (came_at : P → List (List ℕ)) (sent_at : P → List Out) (faults_at : P → ℕ)
    (old new : ReplicaState P) (old_moves new_moves : Moves) (result : Result (Unit {0}) ServeFault) : Type 0 where
  pub offered : List Plan
  pub does : DoesReplica is_honest came_at sent_at faults_at old new 0 [] offered 0
  pub takes : Takes old_moves new_moves offered result
  pub no_failure : failures result ≡ 0

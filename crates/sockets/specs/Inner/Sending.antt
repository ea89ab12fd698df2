-- What the calls that send do.
use Rattle.std.specs.Prelude.{◌≡◌, ℕ, List, [], map, Bool}
use Rattle.wire.specs.declared.out.Out.{Out}
use Rattle.wire.specs.declared.out.To.TheVariants.{Replicas}
use Rattle.sockets.specs.Carrying.{Sending, out_of, Carried}
use Rattle.sockets.specs.Traffic.{with_more}
use Rattle.sockets.specs.declared.traffic.Traffic.{Traffic}

-- a packet on its way to all replicas
abbrev pub to_replicas : List ℕ → Out
to_replicas packet = record { to = Replicas; packet = packet }

-- these datagrams were to be sent, in order, which was counted, and nothing was received
pub record SendsAll {P : Type 0} (is_honest : Bool) (came_at : P → List (List ℕ)) (sent_at : P → List Out) (faults_at : P → ℕ)
    (old new : P) (old_traffic new_traffic : Traffic) (outs : List Out) : Type 0 where
  pub sendings : List Sending
  pub all : map out_of sendings ≡ outs
  pub carried : Carried is_honest came_at sent_at faults_at old new [] sendings 0
  pub counts : new_traffic ≡ with_more old_traffic 0 0 0 sendings

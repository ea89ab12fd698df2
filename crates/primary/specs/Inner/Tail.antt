-- The frames behind a base, as a primary keeps them: the streams of the commits behind the base alone.
use Rattle.std.specs.Prelude.{◌≡◌, ℕ, ◌≤◌, List, length, drop, slice_get, unwrap_or}
use Rattle.rows.specs.declared.commit.Commit.{Commit}
use Rattle.update_log.specs.Streams.{AreStreamsOf, frame_count}
use Rattle.wire.specs.declared.out.Out.{Out}
use Rattle.wire.specs.declared.out.To.TheVariants.{Replica}
use Rattle.primary.specs.declared.tail.Tail.{Tail}

-- the frame count of a worker; 0 if there is no such worker
abbrev pub low_in : List ℕ → ℕ → ℕ
low_in lows worker = unwrap_or (slice_get lows worker) 0

-- the base is within these commits, the counts are those at the base, and the streams are of the commits behind it
pub record IsTailOf (tail : Tail) (commits : List Commit) : Type 0 where
  pub within : tail.base ≤ length commits
  pub lows : (worker : ℕ) → low_in tail.lows worker ≡ frame_count commits worker tail.base
  pub framed : AreStreamsOf tail.streams.streams (drop tail.base commits)

-- a packet on its way to a replica
abbrev pub packet_to : ℕ → List ℕ → Out
packet_to replica packet = record { to = Replica replica; packet = packet }

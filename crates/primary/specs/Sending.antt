-- What a primary sends: the frames of its durable list behind its base, some of them to a Want; some pieces of its base to a Pull; and
-- one Head to an Ask.
use Rattle.std.specs.Prelude.{ℕ, zero, suc, ◌+◌, ◌-◌, ◌==◌, List, [], ◌∷◌, ◌++◌, length, map, take, drop, Option, None, Result, Ok}
use Rattle.std.specs.Prelude.{slice_get, nat_lt, if◌then◌else◌}
use Rattle.std.specs.Option.{option_map}
use Rattle.rows.specs.declared.commit.Commit.{Commit}
use Rattle.rows.specs.declared.entry.Entry.{Entry}
use Rattle.rows.specs.Shape.{Shape, shape_of}
use Rattle.update_log.specs.declared.frame.Frame as frames
use Rattle.update_log.specs.Images.{pieces_at}
use Rattle.update_log.specs.Limits.{want_frames_max}
use Rattle.update_log.specs.Streams.{stream_of, frame_count}
use Rattle.wire.specs.declared.datagram.Datagram.{Datagram}
use Rattle.wire.specs.declared.datagram.Datagram.TheVariants.{Ask, Head, Want, Piece, Pull}
use Rattle.wire.specs.declared.faults.WireFault.{WireFault}
use Rattle.wire.specs.declared.head.Head as heads
use Rattle.wire.specs.declared.out.Out.{Out}
use Rattle.wire.specs.declared.out.To.TheVariants.{Replica}
use Rattle.wire.specs.Spelling.{spelling, frame_spelling}
use Rattle.wire.specs.Reading.{reading}
use Rattle.primary.specs.State.{Primary}

-- ---- frames

-- how many frames of a worker are not kept: those of the commits up to the base
abbrev pub low_of : Primary → ℕ → ℕ
low_of p worker = frame_count p.durable worker p.base

-- the datagram of that seq of a worker's stream of the durable list, if the stream has it and it is kept
abbrev pub pushed : Primary → ℕ → ℕ → Option (List ℕ)
pushed p worker seq =
    if nat_lt seq (low_of p worker) then None else option_map frame_spelling (slice_get (stream_of p.durable worker) seq)

-- the durable frames of a worker from that seq on, at most 16, without those that are not kept; none if there is no such worker
abbrev pub wanted : Primary → ℕ → ℕ → List frames.Frame
wanted p worker from = drop (low_of p worker - from) (take want_frames_max (drop from (stream_of p.durable worker)))

-- a frame on its way to a replica
abbrev pub frame_to : ℕ → frames.Frame → Out
frame_to replica frame = record { to = Replica replica; packet = frame_spelling frame }

-- ---- pieces

-- the Pieces of a base whose entries are these, the first with that number: the last is marked as last
abbrev pub pieces_from : (base number : ℕ) → List (List Entry) → List Datagram
pieces_from base number [] = []
pieces_from base number (piece ∷ pieces) = Piece base number (length pieces == 0) piece ∷ pieces_from base (number + 1) pieces

-- the Pieces of the base of these commits at that version
abbrev pub pieces_of_base : Shape → List Commit → ℕ → List Datagram
pieces_of_base shape commits base = pieces_from base 0 (pieces_at shape commits base)

-- the Pieces of a base from that number on, at most 16; none if it is not the primary's
abbrev pub pulled : Primary → ℕ → ℕ → List Datagram
pulled p base from =
    if base == p.base then take want_frames_max (drop from (pieces_of_base (shape_of p.schema) p.durable p.base)) else []

-- a Piece on its way to a replica
abbrev pub piece_to : ℕ → Datagram → Out
piece_to replica piece = record { to = Replica replica; packet = spelling piece }

-- ---- Heads

-- the frame counts of this many workers up to that version
abbrev pub counts_of : List Commit → ℕ → ℕ → List ℕ
counts_of commits version zero = []
counts_of commits version (suc workers) = counts_of commits version workers ++ frame_count commits workers version ∷ []

-- the Head of a version of a list of commits with a base, for so many workers, in answer to an Ask: each worker's frame count at the
-- base and at the version, and how many pieces the base has
abbrev pub head_of : Shape → List Commit → (base version workers : ℕ) → (replica boot request : ℕ) → heads.Head
head_of shape commits base version workers replica boot request = record {
  replica = replica;
  boot = boot;
  request = request;
  version = version;
  base = base;
  pieces = length (pieces_at shape commits base);
  lows = counts_of commits base workers;
  counts = counts_of commits version workers;
}

-- the Head that answers an Ask: that of what is durable
abbrev pub head_for : Primary → ℕ → ℕ → ℕ → heads.Head
head_for p replica boot request =
    head_of (shape_of p.schema) p.durable p.base (length p.durable) p.workers replica boot request

-- ---- answers

-- what a datagram is answered: an Ask by one Head, a Want by the frames wanted and a Pull by the Pieces wanted, to the replica that
-- asks; anything else by nothing
abbrev pub answers_to : Primary → Result Datagram WireFault → List Out
answers_to p (Ok (Ask replica boot request)) =
    record { to = Replica replica; packet = spelling (Head (head_for p replica boot request)) } ∷ []
answers_to p (Ok (Want replica worker from)) = map (frame_to replica) (wanted p worker from)
answers_to p (Ok (Pull replica base from)) = map (piece_to replica) (pulled p base from)
answers_to p other = []

-- what bytes are answered
abbrev pub answers : Primary → List ℕ → List Out
answers p bytes = answers_to p (reading bytes)

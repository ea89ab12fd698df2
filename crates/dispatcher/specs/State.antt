-- The state of a replica, as its callers see it.
use Rattle.std.specs.Prelude.{ℕ, List, Option, Bool}
use Rattle.rows.specs.Shape.{Shape}
use Rattle.rows.specs.Tables.{Tables}
use Rattle.intake.specs.State.{Arrivals}
use Rattle.intake.specs.Steps.{no_arrivals as none_came}
use Rattle.queries.specs.declared.plan.Plan.{Plan}

-- the version that was fetched for a batch and the primary's base, with each worker's frame count at both, and how many pieces the
-- image at the base has
pub record Fetched : Type 0 where
  pub version : ℕ
  pub base : ℕ
  pub pieces : ℕ
  pub lows : List ℕ
  pub counts : List ℕ

-- the queries that are answered together, and what was fetched for them
pub record Batch : Type 0 where
  pub plans : List Plan
  pub fetched : Option Fetched

-- the pieces that came of the image at a base: the frames of one worker, whose seqs are the numbers of the pieces
pub record Pieces : Type 0 where
  pub base : ℕ
  pub arrivals : List Arrivals

-- no piece has come of the image at this base
abbrev pub no_pieces : ℕ → Pieces
no_pieces base = record { base = base; arrivals = none_came 1 }

-- a replica: the frames that it received of each worker, how many are applied, the pieces that it received of an image, its tables
-- at one version, the queries that wait, and its batch
pub record Replica : Type 0 where
  -- the tables' names, in the schema's order, and the kinds of columns with which its tables began
  pub names : List (List ℕ)
  pub shape : Shape
  pub workers : ℕ
  pub number : ℕ
  pub boot : ℕ
  -- how many requests it has made
  pub request : ℕ
  -- the received frames of each worker
  pub arrivals : List Arrivals
  -- how many frames of each worker are applied
  pub applied : List ℕ
  -- the pieces of the newest image that it goes by; the pieces and the tables of a broken replica are not specified: they are
  -- seen as none
  pub pieces : Pieces
  pub tables : Tables
  pub version : ℕ
  -- the queries that wait for the next batch
  pub waiting : List Plan
  pub batch : Option Batch
  pub broken : Bool

-- what a replica is beside its frames and its tables
pub record Protocol : Type 0 where
  pub number : ℕ
  pub boot : ℕ
  pub request : ℕ
  pub version : ℕ
  pub waiting : List Plan
  pub batch : Option Batch
  pub broken : Bool

abbrev pub protocol_of : Replica → Protocol
protocol_of r = record {
  number = r.number;
  boot = r.boot;
  request = r.request;
  version = r.version;
  waiting = r.waiting;
  batch = r.batch;
  broken = r.broken;
}

-- the replica with the requests, queries and batch of a protocol
abbrev pub with_protocol : Replica → Protocol → Replica
with_protocol r q = record r { request = q.request; waiting = q.waiting; batch = q.batch }

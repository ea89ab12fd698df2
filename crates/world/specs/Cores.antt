-- The cores of a world that the program steps: the primary and the replicas, with the open transactions and every datagram that was
-- ever sent.
use Rattle.std.specs.Prelude.{◌≡◌, ℕ, zero, suc, ◌^◌, ◌<◌, List, [], ◌∷◌, length, Option, Bool, true, false, replicate}
use Rattle.rows.specs.declared.commit.Commit.{Commit}
use Rattle.rows.specs.declared.kind.Kind.{Kind}
use Rattle.rows.specs.Shape.{shape_of}
use Rattle.journal.specs.declared.form.Form.{Form}
use Rattle.journal.specs.declared.form.Form.TheVariants.{New}
use Rattle.journal.specs.Recovery.{IsRecovered}
use Rattle.journal.specs.Text.{journal_text}
use Rattle.mvcc.specs.Transaction.{Transaction}
use Rattle.primary.specs.State.{Primary}
use Rattle.primary.specs.Steps.{started_primary as primary_started}
use Rattle.dispatcher.specs.State.{Replica}
use Rattle.dispatcher.specs.Steps.{started_replica as replica_started}
use Rattle.script.specs.declared.setup.Setup.{Setup}

pub record Cores : Type 0 where
  -- what the world was made for, and the primary is started with
  pub setup : Setup
  pub primary : Primary
  pub stopped : Bool
  -- the bytes that stand on the primary's journal, and the form of their text
  pub journal : List ℕ
  pub form : Form
  -- the transactions in the order of their `begin`; none if one is no longer open
  pub transactions : List (Option Transaction)
  -- the bytes of every datagram that was ever sent, in order
  pub sent : List (List ℕ)
  pub replicas : List Replica
  -- for each replica the boots that it had, in the order of its starts
  pub boots : List (List ℕ)
  -- for each replica how many commits were durable when its newest batch asked
  pub asked_at : List ℕ

-- this many replicas, fresh from their start with boot 1
abbrev pub replicas_from : List (List ℕ × List Kind) → ℕ → ℕ → ℕ → List Replica
replicas_from schema workers number zero = []
replicas_from schema workers number (suc count) = replica_started schema workers number 1 ∷ replicas_from schema workers (suc number) count

-- a list of so many zeros
abbrev pub zeros : ℕ → List ℕ
zeros zero = []
zeros (suc count) = 0 ∷ zeros count

-- how a world begins: what it is made for, whether its primary is stopped, the bytes on its journal, the form of their text, and what
-- is durable
pub record Opening : Type 0 where
  pub setup : Setup
  pub stopped : Bool
  pub journal : List ℕ
  pub form : Form
  pub durable : List Commit

-- on a new journal, with a primary that runs
abbrev pub new_opening : Setup → Opening
new_opening setup = record {
  setup = setup;
  stopped = false;
  journal = journal_text New setup.workers (shape_of setup.schema) [];
  form = New;
  durable = [];
}

-- on a journal that has bytes, with a primary that is stopped: what is durable is what they keep
pub record IsOpeningOn (setup : Setup) (bytes : List ℕ) (opening : Opening) : Type 0 where
  pub setup_is : opening.setup ≡ setup
  pub stopped_is : opening.stopped ≡ true
  pub journal_is : opening.journal ≡ bytes
  pub kept : (bytes_kept : ℕ) × IsRecovered setup.workers (shape_of setup.schema) bytes opening.form opening.durable bytes_kept
  pub numbered : length opening.durable < 2 ^ 64

-- the cores at the beginning: the primary with what is durable, each replica with boot 1
abbrev pub cores_started : Opening → Cores
cores_started opening = record {
  setup = opening.setup;
  primary = primary_started opening.setup.schema opening.setup.workers opening.durable;
  stopped = opening.stopped;
  journal = opening.journal;
  form = opening.form;
  transactions = [];
  sent = [];
  replicas = replicas_from opening.setup.schema opening.setup.workers 0 opening.setup.replicas;
  boots = replicate opening.setup.replicas (1 ∷ []);
  asked_at = zeros opening.setup.replicas;
}

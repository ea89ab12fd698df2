-- Only for proofs: what the primary's node is among the cores.
use Rattle.std.specs.Prelude.{◌≡◌, ℕ, ◌^◌, ◌<◌, List, [], ◌∷◌, length, replicate, Bool, true, false}
use Rattle.rows.specs.declared.commit.Commit.{Commit}
use Rattle.rows.specs.Shape.{shape_of}
use Rattle.journal.specs.declared.form.Form.{Form}
use Rattle.journal.specs.Recovery.{IsRecovered}
use Rattle.primary.specs.State.{Primary}
use Rattle.script.specs.declared.setup.Setup.{Setup}
use Rattle.dispatcher.specs.State.{Replica}
use Rattle.world.specs.Cores.{Opening, replicas_from, zeros}
use Rattle.world.specs.declared.primary_node.PrimaryNode.{PrimaryNode}
use Rattle.world.specs.declared.primary_node.PrimaryNode.TheVariants as nodes

-- a primary that is stopped, of which these commits are kept
abbrev pub primary_kept : Setup → List Commit → Primary
primary_kept setup kept =
    record { schema = setup.schema; workers = setup.workers; durable = kept; pending = []; failed = false; base = 0 }

abbrev pub primary_in : Setup → PrimaryNode → Primary
primary_in setup (nodes.Running core) = core.primary
primary_in setup (nodes.Stopped journal kept form) = primary_kept setup kept.items

abbrev pub durable_in : PrimaryNode → List Commit
durable_in (nodes.Running core) = core.primary.durable
durable_in (nodes.Stopped journal kept form) = kept.items

abbrev pub is_stopped : PrimaryNode → Bool
is_stopped (nodes.Running core) = false
is_stopped (nodes.Stopped journal kept form) = true

-- the bytes that stand on the journal
abbrev pub journal_bytes_in : PrimaryNode → List ℕ
journal_bytes_in (nodes.Running core) = core.journal.bytes
journal_bytes_in (nodes.Stopped journal kept form) = journal.bytes

-- the form of their text
abbrev pub form_in : PrimaryNode → Form
form_in (nodes.Running core) = core.form
form_in (nodes.Stopped journal kept form) = form

-- a primary that is stopped, on a journal that has these bytes
abbrev pub IsStoppedOn : Setup → List ℕ → PrimaryNode → Type 0
IsStoppedOn setup bytes node =
    (is_stopped node ≡ true) × (journal_bytes_in node ≡ bytes)
    × ((bytes_kept : ℕ) × IsRecovered setup.workers (shape_of setup.schema) bytes (form_in node) (durable_in node) bytes_kept)
    × (length (durable_in node) < 2 ^ 64)

-- the opening of a world with this primary
abbrev pub opening_of : Setup → PrimaryNode → Opening
opening_of setup node = record {
  setup = setup;
  stopped = is_stopped node;
  journal = journal_bytes_in node;
  form = form_in node;
  durable = durable_in node;
}

-- the replicas at the beginning, with the boots that they had, and with what is noted of them
abbrev pub AreNewReplicas : Setup → List Replica → List (List ℕ) → List ℕ → Type 0
AreNewReplicas setup replicas boots asked_at =
    (replicas ≡ replicas_from setup.schema setup.workers 0 setup.replicas) × (boots ≡ replicate setup.replicas (1 ∷ []))
    × (asked_at ≡ zeros setup.replicas)

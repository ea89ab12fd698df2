-- Where the cores stand: the world that the cores make, and that each replica there is fed from the one list of durable
-- commits.
use Rattle.std.specs.Prelude.{◌≡◌, ℕ, List, [], ◌∷◌, ◌++◌, length, take, drop, Bool, true, false, Some, slice_get}
use Rattle.std.specs.Prelude.{slice_index, slice_index_or}
use Rattle.std.specs.List.{AllByRecursion}
use Rattle.rows.specs.Shape.{shape_of}
use Rattle.journal.specs.Text.{journal_text, records_from, started}
use Rattle.journal.specs.Recovery.{IsRecovered}
use Rattle.dispatcher.specs.State.{Replica, protocol_of}
use Rattle.dispatcher.specs.Feeding.{IsFedFrom}
use Rattle.script.specs.declared.event.Event.{Event}
use Rattle.script.specs.declared.event.Event.TheVariants as events
use Rattle.world.specs.Cores.{Cores}
use Rattle.world.specs.Steps.{World, Member, known_in, known_pieces}

-- a replica that had these boots, as the world has it: its tables are left out, and which frames and pieces it still keeps
abbrev pub member_of : List ℕ → ℕ → Replica → Member
member_of boots asked_at r = record {
  boots = boots;
  asked_at = asked_at;
  known = known_in r.arrivals;
  pieces = known_pieces r.pieces;
  protocol = protocol_of r;
}

-- the boots that the replica of this number had; none if there is no such replica
abbrev pub boots_at : List (List ℕ) → ℕ → List ℕ
boots_at boots number = slice_index_or boots number []

-- the replicas, each with the boots that it had, and with how many commits were durable when its newest batch asked
abbrev pub members_of : List Replica → List (List ℕ) → List ℕ → List Member
members_of [] boots asked_at = []
members_of (r ∷ replicas) boots asked_at =
    member_of (boots_at boots 0) (slice_index asked_at 0) r ∷ members_of replicas (drop 1 boots) (drop 1 asked_at)

-- the world that the cores make
abbrev pub world_of : Cores → World
world_of p = record {
  primary = p.primary;
  stopped = p.stopped;
  transactions = p.transactions;
  sent = p.sent;
  members = members_of p.replicas p.boots p.asked_at;
}

-- two replicas at one version, at whatever two moments, hold the same tables; a broken one has no version
abbrev pub TablesAgree : Cores → Cores → Type 0
TablesAgree p q =
    (i j : ℕ) (r other : Replica) → slice_get p.replicas i ≡ Some r → slice_get q.replicas j ≡ Some other → r.broken ≡ false
    → other.broken ≡ false
    → r.version ≡ other.version → r.tables ≡ other.tables

-- each replica is fed from what is durable: its known frames, its known pieces and its tables are of that one list
abbrev pub AreFed : Cores → Type 0
AreFed p = AllByRecursion (IsFedFrom (shape_of p.primary.schema) p.primary.durable) p.replicas

-- what is durable is what the journal keeps of its bytes
abbrev pub JournalKeeps : Cores → Type 0
JournalKeeps p =
    (bytes_kept : ℕ) × IsRecovered p.primary.workers (shape_of p.primary.schema) p.journal p.form p.primary.durable bytes_kept

-- what a primary's journal contains, by whether it is stopped: then what is durable is what the journal keeps; otherwise its
-- bytes are the text of what is durable
abbrev pub JournalStandsAs : Cores → Bool → Type 0
JournalStandsAs p true = JournalKeeps p
JournalStandsAs p false = p.journal ≡ journal_text p.form p.primary.workers (shape_of p.primary.schema) p.primary.durable

abbrev pub JournalStands : Cores → Type 0
JournalStands p = JournalStandsAs p p.stopped

-- what stands on the journal after a stop: the bytes that it acknowledged, and so many of the pending commits' records after them, in
-- the same form; and after a start: a text of the form that a start leaves
abbrev pub LeavesOnJournal : Cores → Event → Cores → Type 0
LeavesOnJournal old (events.Stop bytes) new =
    old.stopped ≡ false → new.stopped ≡ true
    → (new.journal ≡ old.journal ++ take bytes (records_from (length old.primary.durable) old.primary.pending))
    × (new.form ≡ old.form)
LeavesOnJournal old events.Start new =
    old.stopped ≡ true → new.stopped ≡ false → new.form ≡ started old.form (length old.primary.durable)
LeavesOnJournal old other new = Unit {0}

-- Stops of the primary: what is durable then, which is what its journal keeps.
use Rattle.std.specs.Prelude.{◌≡◌, ℕ, suc, ◌+◌, ◌-◌, List, [], ◌∷◌, ◌++◌, length, map, take, false, Option, None, nat_le}
use Rattle.std.specs.Prelude.{if◌then◌else◌, slice_get}
use Rattle.std.specs.Option.{option_and_then}
use Rattle.rows.specs.declared.commit.Commit.{Commit}
use Rattle.rows.specs.Shape.{Shape}
use Rattle.journal.specs.declared.form.Form.{Form}
use Rattle.journal.specs.Text.{record_of, records_from, journal_text}
use Rattle.journal.specs.Recovery.{IsBeginning, IsJournaled, IsRecovered}
use Rattle.mvcc.specs.Transaction.{Transaction}
use Rattle.primary.specs.Journaling.{IsFormOf}
use Rattle.primary.specs.State.{Primary}

-- how many of these commits, which stand after `before` others, have their whole records among so many bytes
abbrev pub whole_in : ℕ → List Commit → ℕ → ℕ
whole_in before [] bytes = 0
whole_in before (commit ∷ commits) bytes =
    if nat_le (length (record_of (before + 1) commit)) bytes
    then suc (whole_in (before + 1) commits (bytes - length (record_of (before + 1) commit)))
    else 0

-- the primary after a stop that leaves so many bytes of the pending commits' records: those of which the whole record stands
-- are durable, and the others are gone. So is its base, which no journal has
abbrev pub stopped_at : Primary → ℕ → Primary
stopped_at p bytes = record p {
  durable = p.durable ++ take (whole_in (length p.durable) p.pending bytes) p.pending;
  pending = [];
  failed = false;
  base = 0;
}

-- every transaction is over; their numbers go on
abbrev pub closed : List (Option Transaction) → List (Option Transaction)
closed transactions = map (λ transaction. None) transactions

-- ---- laws

-- what is durable after a stop is what the journal keeps of the bytes that stand then, in the same form: the text of what was
-- durable, and the first bytes of the pending commits' records
abbrev pub StopIsRecovered : Type 0
StopIsRecovered =
    (form : Form) (shape : Shape) (p : Primary) (bytes : ℕ) → IsJournaled p.workers shape (p.durable ++ p.pending)
    → IsFormOf form p.durable
    → (bytes_kept : ℕ)
    × IsRecovered p.workers shape (journal_text form p.workers shape p.durable ++ take bytes (records_from (length p.durable) p.pending))
    form (stopped_at p bytes).durable bytes_kept

-- a stop keeps what was durable
abbrev pub StopKeepsDurable : Type 0
StopKeepsDurable = (p : Primary) (bytes : ℕ) → IsBeginning p.durable (stopped_at p bytes).durable

-- and no transaction is open after it
abbrev pub StopEndsTransactions : Type 0
StopEndsTransactions =
    (transactions : List (Option Transaction)) (number : ℕ) → option_and_then (λ slot. slot) (slice_get (closed transactions) number) ≡ None

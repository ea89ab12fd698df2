-- How the code holds a batch, what was fetched for it, and the pieces of an image.
use Rattle.std.specs.Prelude.{◌≡◌, ℕ, List, [], map, length, Option, Some, Result, Ok, slice_get}
use Rattle.std.specs.Option.{option_map}
use Rattle.rows.specs.declared.commit.Commit.{Commit}
use Rattle.rows.specs.declared.entry.Entry.{Entry}
use Rattle.rows.specs.declared.entry.Entry.TheVariants.{Insert}
use Rattle.update_log.specs.declared.frame.Frame.{Frame}
use Rattle.intake.specs.Kept.{AreKeptFrom}
use Rattle.intake.specs.State.{Arrivals}
use Rattle.dispatcher.specs.declared.batch.Batch.{Batch as HeldBatch}
use Rattle.dispatcher.specs.declared.batch.Fetched.{Fetched as HeldFetched}
use Rattle.wire.specs.declared.datagram.Datagram.{Datagram}
use Rattle.wire.specs.declared.datagram.Datagram.TheVariants as datagrams
use Rattle.wire.specs.declared.faults.WireFault.{WireFault}
use Rattle.wire.specs.Reading.{reading}
use Rattle.dispatcher.specs.Images.{image_commits}
use Rattle.dispatcher.specs.State.{Batch, Fetched}

abbrev pub fetched_of : HeldFetched → Fetched
fetched_of held =
    record { version = held.version; base = held.base; pieces = held.pieces; lows = held.lows; counts = held.counts }

abbrev pub batch_held : HeldBatch → Batch
batch_held held = record { plans = held.plans.items; fetched = option_map fetched_of held.fetched }

-- of the pieces of an image: those of one worker, and each that is known is kept
pub record AreKeptPieces (arrivals : List Arrivals) : Type 0 where
  pub one : length arrivals ≡ 1
  pub kept : AreKeptFrom arrivals []

-- the entries of a piece, if what was read is one
abbrev pub entries_in : Result Datagram WireFault → List Entry
entries_in (Ok (datagrams.Piece base number last entries)) = entries
entries_in other = []

-- those of a piece that waits: the data of its one entry is the piece's datagram
abbrev pub entries_for : Option Entry → List Entry
entries_for (Some (Insert table row bytes)) = entries_in (reading bytes)
entries_for other = []

abbrev pub waiting_entries : List Entry → List Entry
waiting_entries entries = entries_for (slice_get entries 0)

-- the piece that waits so
abbrev pub piece_in : Frame → Frame
piece_in frame = record frame { entries = waiting_entries frame.entries }

-- all that are kept so, and all that came
abbrev pub kept_in : List (ℕ × Frame) → List (ℕ × Frame)
kept_in kept = map (λ entry. (entry.0, piece_in entry.1)) kept

abbrev pub come_in : Arrivals → Arrivals
come_in arrivals = record { known = arrivals.known; kept = kept_in arrivals.kept }

abbrev pub pieces_in : List Arrivals → List Arrivals
pieces_in all = map come_in all

-- pieces that wait, as the commits that they come to
abbrev pub commits_in : List Frame → List Commit
commits_in frames = image_commits (map piece_in frames)

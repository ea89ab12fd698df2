-- What becomes of a frame of the list that a replica is fed from: its worker is there and each of its entries fits.
use Rattle.std.proofs.Common.{◌≡◌, ℕ, zero, suc, ◌+◌, ◌<◌, Bool, true, false, cond, not, ◌||◌, ◌==◌, List, [], ◌∷◌, ◌++◌, length, take}
use Rattle.std.proofs.Common.{nat_lt}
use Rattle.std.proofs.Common.{Some}
use Rattle.std.proofs.Common.{Result, Ok, refl, sym, ap, subst, ◌∙◌}
use Rattle.std.specs.List.{slice_get, list_all, AllByRecursion}
use Rattle.std.proofs.lemmas.Bool.{cond-false, cond_both, and_parts, and_from, lt-ltb}
use Rattle.std.proofs.lemmas.List.{length-map}
use Rattle.std.proofs.lemmas.List.Folds.{list_all-append}
use Rattle.std.proofs.lemmas.Option.{none-some, same_Some}
use Rattle.rows.specs.declared.commit.Commit.{Commit}
use Rattle.rows.specs.declared.entry.Entry.{Entry}
use Rattle.rows.specs.Shape.{Shape}
use Rattle.rows.specs.Entries.{table_of}
use Rattle.rows.specs.Tables.{Table, Tables, shape_in}
use Rattle.rows.specs.Commits.{IsCommit}
use Rattle.rows.specs.Laws.{VersionsTellKinds, TablesStay}
use Rattle.rows.specs.ImageLaws.{ImagesReplace}
use Rattle.rows.specs.ListLaws.{EachHasTable}
use Rattle.update_log.specs.declared.frame.Frame.{Frame}
use Rattle.update_log.specs.Frames.{frames_from, frames_of}
use Rattle.update_log.specs.Parts.{has_room, parts_from, parts_of}
use Rattle.update_log.specs.Streams.{stream_from, stream_of}
use Rattle.wire.specs.declared.datagram.Datagram.{Datagram}
use Rattle.wire.specs.declared.faults.WireFault.{WireFault}
use Rattle.wire.specs.declared.datagram.Datagram.TheVariants as datagrams
use Rattle.wire.specs.Reading.{reading}
use Rattle.wire.specs.Spelling.{datagram_of_frame}
use Rattle.intake.specs.State.{Arrivals}
use Rattle.dispatcher.specs.declared.outcome.Got.{Got}
use Rattle.dispatcher.specs.declared.outcome.Got.TheVariants as got
use Rattle.dispatcher.specs.Feeding.{IsFedFrom, Tells, TrueFrameIsTaken, TruePieceIsTaken}
use Rattle.dispatcher.specs.Images.{piece_frame, frames_of_base}
use Rattle.dispatcher.specs.Protocol.{bases_for, fetched_for, wants_piece}
use Rattle.dispatcher.specs.State.{Replica}
use Rattle.dispatcher.specs.Steps.{received, have_tables, datagram_comes}
use Rattle.dispatcher.proofs.Coming.{comes, unfit-is}
use Rattle.dispatcher.proofs.Imaging.{PieceFits, base-fits}
use Rattle.dispatcher.proofs.Widened.{still-many}

-- what the laws say of the tables of entries, and of the kinds of tables' columns
pub record Kinds : Type 0 where
  pub have_table : EachHasTable
  pub versions : VersionsTellKinds
  pub stay : TablesStay
  pub replace : ImagesReplace

-- ---- the tables of the entries of a legal list are there

-- whether the table of an entry is there, and whether those of these are
abbrev fits : ℕ → Entry → Bool
fits tables entry = nat_lt (table_of entry) tables

abbrev AllFit : ℕ → List Entry → Type 0
AllFit tables entries = list_all (fits tables) entries ≡ true

-- a commit whose worker is there, and the tables of whose entries are
abbrev CommitFits : ℕ → ℕ → Commit → Type 0
CommitFits tables workers commit = (commit.worker < workers) × AllFit tables commit.entries

entries-fit : (tables : ℕ) (entries : List Entry) → AllByRecursion (λ entry. table_of entry < tables) entries → AllFit tables entries
entries-fit tables [] each = refl
entries-fit tables (entry ∷ entries) each =
    and_from (fits tables entry) (list_all (fits tables) entries) (lt-ltb (table_of entry) tables each.0)
    (entries-fit tables entries each.1)

commits-fit : (workers tables : ℕ) (commits : List Commit) → AllByRecursion (IsCommit workers) commits
    → AllByRecursion (λ commit. AllByRecursion (λ entry. table_of entry < tables) commit.entries) commits
    → AllByRecursion (CommitFits tables workers) commits
commits-fit workers tables [] each there = tt
commits-fit workers tables (commit ∷ commits) each there =
    ((each.0.worker, entries-fit tables commit.entries there.0), commits-fit workers tables commits each.1 there.1)

-- ---- and so do those of its frames

-- a frame whose worker is there, and the tables of whose entries are
abbrev FrameFits : ℕ → ℕ → Frame → Type 0
FrameFits shape workers frame = (frame.worker < workers) × AllFit shape frame.entries

module _ (shape : ℕ) where
  parts-fit : (part entries : List Entry) → AllFit shape part → AllFit shape entries
      → AllByRecursion (AllFit shape) (parts_from part entries)
  parts-fit part [] here behind = (here, tt)
  parts-fit part (entry ∷ entries) here behind =
      by (λ next fit. parts-fit next entries fit (and_parts (fits shape entry) (list_all (fits shape) entries) behind).1)
      (has_room part entry)
    where
      one : AllFit shape (entry ∷ [])
      one = and_from (fits shape entry) true (and_parts (fits shape entry) (list_all (fits shape) entries) behind).0 refl

      by : ((next : List Entry) → AllFit shape next → AllByRecursion (AllFit shape) (parts_from next entries)) → (room : Bool)
          → AllByRecursion (AllFit shape)
          (cond room [] (part ∷ []) ++ parts_from (cond room (part ++ entry ∷ []) (entry ∷ [])) entries)
      by rest true =
          rest (part ++ entry ∷ []) (list_all-append (fits shape) part (entry ∷ [])
          ∙ and_from (list_all (fits shape) part) (list_all (fits shape) (entry ∷ [])) here one)
      by rest false = (here, rest (entry ∷ []) one)

  -- the parts of entries
  cut-fit : (entries : List Entry) → AllFit shape entries → AllByRecursion (AllFit shape) (parts_of entries)
  cut-fit [] fit = tt
  cut-fit (entry ∷ entries) fit =
      let both = and_parts (fits shape entry) (list_all (fits shape) entries) fit in
      parts-fit (entry ∷ []) entries (and_from (fits shape entry) true both.0 refl) both.1

  frames-fit : (workers worker number seq : ℕ) (parts : List (List Entry)) → worker < workers → AllByRecursion (AllFit shape) parts
      → AllByRecursion (FrameFits shape workers) (frames_from worker number seq parts)
  frames-fit workers worker number seq [] there each = tt
  frames-fit workers worker number seq (part ∷ parts) there each =
      ((there, each.0), frames-fit workers worker number (seq + 1) parts there each.1)

all-joined : (P : Frame → Type 0) (front back : List Frame) → AllByRecursion P front → AllByRecursion P back
    → AllByRecursion P (front ++ back)
all-joined P [] back first rest = rest
all-joined P (frame ∷ front) back first rest = (first.0, all-joined P front back first.1 rest)

-- the frames of a worker
stream-fits : (shape : ℕ) (workers worker before first : ℕ) (commits : List Commit)
    → AllByRecursion (CommitFits shape workers) commits
    → AllByRecursion (FrameFits shape workers) (stream_from worker before first commits)
stream-fits shape workers worker before first [] each = tt
stream-fits shape workers worker before first (commit ∷ commits) each =
    let frames : List Frame = cond (commit.worker == worker) (frames_of commit (before + 1) first) [] in
    all-joined (FrameFits shape workers) frames (stream_from worker (before + 1) (first + length frames) commits)
    (cond_both (commit.worker == worker) (frames_of commit (before + 1) first) [] (AllByRecursion (FrameFits shape workers))
    (λ own. frames-fit shape workers commit.worker (before + 1) first (parts_of commit.entries) each.0.0
    (cut-fit shape commit.entries each.0.1)) (λ other. tt))
    (stream-fits shape workers worker (before + 1) (first + length frames) commits each.1)

-- what holds of each frame holds of one that is found
of-found : (P : Frame → Type 0) (stream : List Frame) (seq : ℕ) (frame : Frame) → AllByRecursion P stream
    → slice_get stream seq ≡ Some frame → P frame
of-found P [] seq frame each h = absurd (none-some frame h)
of-found P (first ∷ stream) zero frame each h = subst P (same_Some first frame h) each.0
of-found P (first ∷ stream) (suc seq) frame each h = of-found P stream seq frame each.1 h

-- ---- so it is taken

-- a replica that is fed has as many tables as those with which they began
many-tables : Kinds → (shape : Shape) (commits : List Commit) (r : Replica) → IsFedFrom shape commits r → r.broken ≡ false
    → length r.tables ≡ length shape
many-tables laws shape commits r fed whole =
    sym (length-map r.tables (λ (table : Table). table.kinds))
    ∙ ap (λ (tables : Tables). length (shape_in tables)) (fed.tables_are whole)
    ∙ ap (λ (shape : Shape). length shape) (laws.versions shape commits r.version fed.legal.defined)
    ∙ still-many laws.stay shape (take r.version commits)

comes-read : (r : Replica) (bytes : List ℕ) (datagram : Result Datagram WireFault) → r.broken ≡ false → reading bytes ≡ datagram
    → received r bytes ≡ datagram_comes r datagram
comes-read r bytes datagram whole reads =
    cond-false {A = Got × Replica} r.broken (got.Broken, r) (datagram_comes r (reading bytes)) whole
    ∙ ap (λ (datagram : Result Datagram WireFault). datagram_comes r datagram) reads

pub frame-taken : Kinds → TrueFrameIsTaken
frame-taken laws shape commits r bytes frame fed whole reads tells =
    let found : slice_get (stream_of commits frame.worker) frame.seq ≡ Some frame =
    subst (λ (datagram : Result Datagram WireFault). Tells shape r.workers commits datagram) reads tells in
    let each = commits-fit r.workers (length shape) commits fed.legal.each (laws.have_table shape commits fed.legal.defined) in
    let fit =
    of-found (FrameFits (length shape) r.workers) (stream_of commits frame.worker) frame.seq frame
    (stream-fits (length shape) r.workers frame.worker 0 0 commits each) found in
    comes-read r bytes (Ok (datagram_of_frame frame)) whole reads
    ∙ comes r (λ (all : List Arrivals). record r { arrivals = all }) r.arrivals (bases_for r.version (fetched_for r.batch)) frame
    (not (nat_lt frame.worker r.workers) || not (have_tables r frame.entries)) refl
    (unfit-is r frame.entries (length shape) (nat_lt frame.worker r.workers) true true (many-tables laws shape commits r fed whole)
    (lt-ltb frame.worker r.workers fit.0) fit.1)

-- the tables of the entries of a piece of an image are there
piece-fits : (tables : ℕ) (piece : Frame) → PieceFits tables piece → AllFit tables piece.entries
piece-fits tables piece each = entries-fit tables piece.entries each

pub piece-taken : Kinds → TruePieceIsTaken
piece-taken laws shape commits r bytes base number last entries fed whole reads tells wanted =
    let piece : Frame = piece_frame base number last entries in
    let found =
    subst (λ (datagram : Result Datagram WireFault). Tells shape r.workers commits datagram) reads tells in
    let fit =
    of-found (PieceFits (length shape)) (frames_of_base shape commits base) number piece
    (base-fits laws.replace laws.have_table shape commits base fed.spelled fed.legal.defined) found.1 in
    comes-read r bytes (Ok (datagrams.Piece base number last entries)) whole reads
    ∙ comes r (λ (all : List Arrivals). record r { pieces = record r.pieces { arrivals = all } }) r.pieces.arrivals [] piece
    (not (wants_piece r.version (fetched_for r.batch) base number) || not (have_tables r entries)) refl
    (unfit-is r entries (length shape) (wants_piece r.version (fetched_for r.batch) base number) true true
    (many-tables laws shape commits r fed whole) wanted (piece-fits (length shape) piece fit))

-- Laws of cutting and of streams: entries have exactly one list of parts, and no more parts than entries; the frames of a commit
-- can be sent; an image has exactly one list of pieces; and how a stream goes on with later commits.
use Rattle.std.specs.Prelude.{◌≡◌, ℕ, ◌^◌, ◌<◌, ◌≤◌, List, ◌++◌, length, map}
use Rattle.std.specs.List.{AllByRecursion}
use Rattle.rows.specs.declared.commit.Commit.{Commit}
use Rattle.rows.specs.declared.entry.Entry.{Entry}
use Rattle.rows.specs.Spelling.{HasSpelling}
use Rattle.update_log.specs.Frames.{IsSendable, IsCuttable, frames_of}
use Rattle.update_log.specs.Streams.{stream_of, shifted}
use Rattle.update_log.specs.Parts.{piece_front_len, AreCut, AreParts, parts_of, pieces_of}

-- entries that have spellings have parts
abbrev pub EntriesAreCut : Type 0
EntriesAreCut = (entries : List Entry) → AllByRecursion HasSpelling entries → AreParts entries (parts_of entries)

-- and no others
abbrev pub CutIsUnique : Type 0
CutIsUnique = (entries : List Entry) (parts : List (List Entry)) → AreParts entries parts → parts ≡ parts_of entries

-- there are no more parts than entries
abbrev pub CutIsShort : Type 0
CutIsShort = (entries : List Entry) → length (parts_of entries) ≤ length entries

-- the frames of a commit that can be cut can be sent
abbrev pub FramesAreSendable : Type 0
FramesAreSendable =
    (commit : Commit) (number first_seq : ℕ) → IsCuttable commit number first_seq → number < 2 ^ 64
    → AllByRecursion IsSendable (frames_of commit number first_seq)

-- ---- pieces

-- an image's entries, if there are any, are cut into its pieces
abbrev pub PiecesAreCut : Type 0
PiecesAreCut =
    (entries : List Entry) → 0 < length entries → AllByRecursion HasSpelling entries → AreCut piece_front_len entries (pieces_of entries)

-- and into no others
abbrev pub PiecesAreUnique : Type 0
PiecesAreUnique =
    (entries : List Entry) (pieces : List (List Entry)) → 0 < length entries → AreCut piece_front_len entries pieces
    → pieces ≡ pieces_of entries

-- there is always a piece
abbrev pub PiecesAreSome : Type 0
PiecesAreSome = (entries : List Entry) → 0 < length (pieces_of entries)

-- ---- streams

-- a stream goes on with the frames that later commits have alone, each of which is shifted
abbrev pub StreamGoesOn : Type 0
StreamGoesOn =
    (before more : List Commit) (worker : ℕ)
    → stream_of (before ++ more) worker
    ≡ stream_of before worker ++ map (shifted (length before) (length (stream_of before worker))) (stream_of more worker)

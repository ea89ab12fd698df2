-- The one spelling of a datagram as bytes. All numbers are big-endian.
--
-- Each begins with six bytes: 42 44, the version 03, the kind, and the total length in two. The
-- body is by kind.
use Rattle.std.specs.Prelude.{◌≡◌, ℕ, ◌+◌, ◌^◌, ◌<◌, ◌≤◌, ◌↔◌, List, [], ◌∷◌, ◌++◌, length, Bool, true, false, nat_le}
use Rattle.std.specs.Cmp.Lexicographic.{pointwise}
use Rattle.std.specs.List.{flat_map, AllByRecursion}
use Rattle.byteorder.specs.Endian.{big_bytes}
use Rattle.rows.specs.declared.entry.Entry.{Entry}
use Rattle.rows.specs.Limits.{datagram_max, workers_max, replicas_max}
use Rattle.rows.specs.Spelling.{HasSpelling, entry_spelling}
use Rattle.update_log.specs.declared.frame.Frame as frames
use Rattle.update_log.specs.Frames.{IsFrame}
use Rattle.update_log.specs.Parts.{piece_front_len, part_len}
use Rattle.wire.specs.declared.datagram.Datagram.{Datagram}
use Rattle.wire.specs.declared.datagram.Datagram.TheVariants.{Frame, Ask, Head, Want, Piece, Pull}
use Rattle.wire.specs.declared.head.Head as heads

-- the first bytes of each datagram, as one number
abbrev pub datagram_magic : ℕ
datagram_magic = 0x4244

-- the version of this format: the third byte
abbrev pub datagram_version : ℕ
datagram_version = 3

-- the kinds of datagrams: the fourth byte
abbrev pub frame_kind : ℕ
frame_kind = 1

abbrev pub ask_kind : ℕ
ask_kind = 2

abbrev pub head_kind : ℕ
head_kind = 3

abbrev pub want_kind : ℕ
want_kind = 4

abbrev pub piece_kind : ℕ
piece_kind = 5

abbrev pub pull_kind : ℕ
pull_kind = 6

-- the six bytes that begin a datagram of this kind and total length
abbrev pub datagram_front : ℕ → ℕ → List ℕ
datagram_front kind total = big_bytes 2 datagram_magic ++ (datagram_version ∷ kind ∷ []) ++ big_bytes 2 total

-- a datagram of this kind with this body
abbrev pub datagram_of : ℕ → List ℕ → List ℕ
datagram_of kind body = datagram_front kind (6 + length body) ++ body

-- a flag: 1 if it is true, else 0
abbrev pub flag : Bool → ℕ
flag false = 0
flag true = 1

-- a Frame's body before its entries: worker, seq, commit number, whether it is the last
-- of its commit, how many entries
abbrev pub frame_head : ℕ → ℕ → ℕ → Bool → ℕ → List ℕ
frame_head worker seq commit last count =
    (worker ∷ []) ++ big_bytes 8 seq ++ big_bytes 8 commit ++ (flag last ∷ []) ++ big_bytes 2 count

-- bytes of an Ask
abbrev pub ask_len : ℕ
ask_len = 23

-- an Ask's body: replica, boot, request
abbrev pub ask_body : ℕ → ℕ → ℕ → List ℕ
ask_body replica boot request = (replica ∷ []) ++ big_bytes 8 boot ++ big_bytes 8 request

-- a Head's body before its counts: replica, boot, request, version, base, how many pieces, how many workers
abbrev pub head_head : heads.Head → List ℕ
head_head head =
    (head.replica ∷ []) ++ big_bytes 8 head.boot ++ big_bytes 8 head.request ++ big_bytes 8 head.version ++ big_bytes 8 head.base
    ++ big_bytes 8 head.pieces ++ (length head.counts ∷ [])

-- for each worker its base count, and after that its count
abbrev pub in_turn : List ℕ → List ℕ → List ℕ
in_turn (low ∷ lows) (count ∷ counts) = low ∷ count ∷ in_turn lows counts
in_turn lows counts = []

-- a Head's counts: eight bytes each
abbrev pub counts_spelling : heads.Head → List ℕ
counts_spelling head = flat_map (big_bytes 8) (in_turn head.lows head.counts)

-- a Want's body: replica, worker, first seq wanted
abbrev pub want_body : ℕ → ℕ → ℕ → List ℕ
want_body replica worker from = (replica ∷ worker ∷ []) ++ big_bytes 8 from

-- a Piece's body before its entries: base, number, whether it is the last of its image, how many entries
abbrev pub piece_head : ℕ → ℕ → Bool → ℕ → List ℕ
piece_head base number last count = big_bytes 8 base ++ big_bytes 8 number ++ (flag last ∷ []) ++ big_bytes 2 count

-- a Pull's body: replica, base, number of the first piece wanted
abbrev pub pull_body : ℕ → ℕ → ℕ → List ℕ
pull_body replica base from = (replica ∷ []) ++ big_bytes 8 base ++ big_bytes 8 from

-- the bytes of a datagram
abbrev pub spelling : Datagram → List ℕ
spelling (Frame worker seq commit last entries) =
    datagram_of frame_kind (frame_head worker seq commit last (length entries) ++ flat_map entry_spelling entries)
spelling (Ask replica boot request) = datagram_of ask_kind (ask_body replica boot request)
spelling (Head head) = datagram_of head_kind (head_head head ++ counts_spelling head)
spelling (Want replica worker from) = datagram_of want_kind (want_body replica worker from)
spelling (Piece base number last entries) =
    datagram_of piece_kind (piece_head base number last (length entries) ++ flat_map entry_spelling entries)
spelling (Pull replica base from) = datagram_of pull_kind (pull_body replica base from)

-- which Asks have a spelling, and which Heads as far as they repeat an Ask: the replica is below 16, and the numbers are of 64 bits
pub record IsAsk (replica boot request : ℕ) : Type 0 where
  pub replica_below : replica < replicas_max
  pub boot_below : boot < 2 ^ 64
  pub request_below : request < 2 ^ 64

-- which counts a Head may have: 1 to 16 numbers of 64 bits
pub record AreCounts (counts : List ℕ) : Type 0 where
  pub some : 0 < length counts
  pub few : length counts ≤ workers_max
  pub below : AllByRecursion (λ count. count < 2 ^ 64) counts

-- which versions, bases, pieces and counts a Head may have: no base is above the version, and no base count above its worker's
-- count; there are pieces exactly if there is a base, and else no base counts
pub record AreMarks (version base pieces : ℕ) (lows counts : List ℕ) : Type 0 where
  pub version_below : version < 2 ^ 64
  pub pieces_below : pieces < 2 ^ 64
  pub counted : AreCounts counts
  pub base_within : base ≤ version
  pub lows_within : pointwise nat_le lows counts ≡ true
  pub none : (base ≡ 0) ↔ (pieces ≡ 0)
  pub opening : base ≡ 0 → AllByRecursion (λ low. low ≡ 0) lows

-- which Pieces have a spelling: there is a base, each entry has a spelling, and all fit into 1200 bytes; only a first and last
-- one may be without entries
pub record IsPiece (base number : ℕ) (last : Bool) (entries : List Entry) : Type 0 where
  pub based : 0 < base
  pub base_below : base < 2 ^ 64
  pub number_below : number < 2 ^ 64
  pub spelled : AllByRecursion HasSpelling entries
  pub few : part_len piece_front_len entries ≤ datagram_max
  pub empty : length entries ≡ 0 → (number ≡ 0) × (last ≡ true)

-- which datagrams have a spelling: a Frame if it is one (`IsFrame`), and the others if their numbers are in range
abbrev pub HasDatagramSpelling : Datagram → Type 0
HasDatagramSpelling (Frame worker seq commit last entries) = IsFrame worker seq commit entries
HasDatagramSpelling (Ask replica boot request) = IsAsk replica boot request
HasDatagramSpelling (Head head) =
    IsAsk head.replica head.boot head.request × AreMarks head.version head.base head.pieces head.lows head.counts
HasDatagramSpelling (Want replica worker from) = (replica < replicas_max) × (worker < workers_max) × (from < 2 ^ 64)
HasDatagramSpelling (Piece base number last entries) = IsPiece base number last entries
HasDatagramSpelling (Pull replica base from) = (replica < replicas_max) × (base < 2 ^ 64) × (from < 2 ^ 64)

-- a frame of a stream as a datagram
abbrev pub datagram_of_frame : frames.Frame → Datagram
datagram_of_frame frame = Frame frame.worker frame.seq frame.commit frame.last frame.entries

-- the bytes of that datagram
abbrev pub frame_spelling : frames.Frame → List ℕ
frame_spelling frame = spelling (datagram_of_frame frame)

-- which frames a datagram spells
abbrev pub FrameHasSpelling : frames.Frame → Type 0
FrameHasSpelling frame = HasDatagramSpelling (datagram_of_frame frame)

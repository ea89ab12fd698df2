-- What bytes read as: a datagram, or the first fault.
use Rattle.std.specs.Prelude.{ℕ, zero, suc, ◌+◌, ◌*◌, List, [], ◌∷◌, length, drop, Option, None, Some, Result, Err, slice_index, nat_lt}
use Rattle.std.specs.Prelude.{Bool, ◌==◌, ◌||◌, ◌&&◌, not, nat_le, if◌then◌else◌}
use Rattle.std.specs.Cmp.Lexicographic.{pointwise}
use Rattle.std.specs.List.{list_all}
use Rattle.std.specs.Option.{option_map, ok_or}
use Rattle.byteorder.specs.Endian.{big_number}
use Rattle.rows.specs.Limits.{datagram_max, workers_max, replicas_max}
use Rattle.wire.specs.declared.datagram.Datagram.{Datagram}
use Rattle.wire.specs.declared.datagram.Datagram.TheVariants.{Frame, Ask, Head, Want, Piece, Pull}
use Rattle.wire.specs.declared.head.Head as heads
use Rattle.wire.specs.declared.faults.WireFault.{WireFault}
use Rattle.wire.specs.declared.faults.WireFault.TheVariants.{Short, Magic, Version, Kind, Length, Body}
use Rattle.rows.specs.Reading.{entries_filling}
use Rattle.wire.specs.Spelling.{datagram_magic, datagram_version, frame_kind, ask_kind, head_kind, want_kind, piece_kind, pull_kind}

-- a Frame's body: the worker is below 16, the commit's number not 0, the flag 0 or 1, the count not 0, and exactly
-- that many entries fill the rest
abbrev pub frame_at : List ℕ → Option Datagram
frame_at body =
    if nat_lt (length body) 20 then None else
    if not (nat_lt (slice_index body 0) workers_max) || (big_number 8 (drop 9 body) == 0) || nat_lt 1 (slice_index body 17)
    || (big_number 2 (drop 18 body) == 0) then None else
    option_map (λ entries. Frame (slice_index body 0) (big_number 8 (drop 1 body)) (big_number 8 (drop 9 body))
    (slice_index body 17 == 1) entries)
    (entries_filling (big_number 2 (drop 18 body)) (drop 20 body))

-- an Ask's body: 17 bytes, the replica below 16
abbrev pub ask_at : List ℕ → Option Datagram
ask_at body =
    if not (length body == 17) || not (nat_lt (slice_index body 0) replicas_max) then None else
    Some (Ask (slice_index body 0) (big_number 8 (drop 1 body)) (big_number 8 (drop 9 body)))

-- the numbers of this many workers: one at the front of each sixteen bytes
abbrev pub counts_at : ℕ → List ℕ → List ℕ
counts_at zero bytes = []
counts_at (suc workers) bytes = big_number 8 bytes ∷ counts_at workers (drop 16 bytes)

-- a Head by its body: of each worker's sixteen bytes the base count is the first eight, and the count the others
abbrev pub head_in : List ℕ → heads.Head
head_in body = record {
  replica = slice_index body 0;
  boot = big_number 8 (drop 1 body);
  request = big_number 8 (drop 9 body);
  version = big_number 8 (drop 17 body);
  base = big_number 8 (drop 25 body);
  pieces = big_number 8 (drop 33 body);
  lows = counts_at (slice_index body 41) (drop 42 body);
  counts = counts_at (slice_index body 41) (drop 50 body);
}

-- whether a Head may have this base: it is not above the version, and no base count above its worker's count; there are pieces
-- exactly if there is a base, and else no base counts
abbrev pub has_base : heads.Head → Bool
has_base head =
    nat_le head.base head.version && pointwise nat_le head.lows head.counts
    && (if head.base == 0 then (head.pieces == 0) && list_all (λ low. low == 0) head.lows else not (head.pieces == 0))

-- a Head's body: the replica below 16, 1 to 16 workers, two counts for each fill the rest, and it may have its base
abbrev pub head_at : List ℕ → Option Datagram
head_at body =
    if nat_lt (length body) 42 then None else
    if not (nat_lt (slice_index body 0) replicas_max) || (slice_index body 41 == 0) || nat_lt workers_max (slice_index body 41)
    || not (length body == 42 + 16 * slice_index body 41) then None else
    if not (has_base (head_in body)) then None else Some (Head (head_in body))

-- a Want's body: 10 bytes, the replica and the worker below 16
abbrev pub want_at : List ℕ → Option Datagram
want_at body =
    if not (length body == 10) || not (nat_lt (slice_index body 0) replicas_max) || not (nat_lt (slice_index body 1) workers_max)
    then None else
    Some (Want (slice_index body 0) (slice_index body 1) (big_number 8 (drop 2 body)))

-- whether a Piece of this number and flag may have so many entries: only a first and last one may have none
abbrev pub may_count : (number flag count : ℕ) → Bool
may_count number flag count = not (count == 0) || ((number == 0) && (flag == 1))

-- a Piece's body: the base is not 0, the flag 0 or 1, it may have its count, and exactly that many entries fill the rest
abbrev pub piece_at : List ℕ → Option Datagram
piece_at body =
    if nat_lt (length body) 19 then None else
    if (big_number 8 body == 0) || nat_lt 1 (slice_index body 16)
    || not (may_count (big_number 8 (drop 8 body)) (slice_index body 16) (big_number 2 (drop 17 body))) then None else
    option_map (λ entries. Piece (big_number 8 body) (big_number 8 (drop 8 body)) (slice_index body 16 == 1) entries)
    (entries_filling (big_number 2 (drop 17 body)) (drop 19 body))

-- a Pull's body: 17 bytes, the replica below 16
abbrev pub pull_at : List ℕ → Option Datagram
pull_at body =
    if not (length body == 17) || not (nat_lt (slice_index body 0) replicas_max) then None else
    Some (Pull (slice_index body 0) (big_number 8 (drop 1 body)) (big_number 8 (drop 9 body)))

-- the body of a datagram of this kind
abbrev pub body_at : ℕ → List ℕ → Option Datagram
body_at kind body =
    if kind == frame_kind then frame_at body else
    if kind == ask_kind then ask_at body else
    if kind == head_kind then head_at body else
    if kind == want_kind then want_at body else
    if kind == piece_kind then piece_at body else pull_at body

-- whether there is no datagram of this kind
abbrev pub is_unknown : ℕ → Bool
is_unknown kind = nat_lt kind frame_kind || nat_lt pull_kind kind

-- what bytes read as: a datagram, or the first fault, in the order of the parts: too short, magic, version, kind, length, body
abbrev pub reading : List ℕ → Result Datagram WireFault
reading bytes =
    if nat_lt (length bytes) 6 then Err Short else
    if not (big_number 2 bytes == datagram_magic) then Err Magic else
    if not (slice_index bytes 2 == datagram_version) then Err Version else
    if is_unknown (slice_index bytes 3) then Err Kind else
    if not (big_number 2 (drop 4 bytes) == length bytes) || nat_lt datagram_max (length bytes) then Err Length else
    ok_or (body_at (slice_index bytes 3) (drop 6 bytes)) Body

-- What the datagrams that are sent read as.
use Rattle.std.proofs.Common.{◌≡◌, ℕ, zero, suc, ◌+◌, ◌*◌, ◌^◌, ◌%◌, ◌<◌, Bool, true, false, cond, not, ◌||◌, ◌==◌, List, []}
use Rattle.std.proofs.Common.{◌∷◌, ◌++◌, length, drop, get_or, Option, Some, None, Result, Ok, Err, nat_lt, refl, sym, ap, subst, ◌∙◌}
use Rattle.std.proofs.Common.{arith}
use Rattle.std.specs.List.{slice_index, flat_map, AllByRecursion}
use Rattle.std.specs.Option.{option_map, ok_or}
use Rattle.std.specs.Int.{byte_at, w64, from_be_bytes}
use Rattle.std.proofs.lemmas.Nat.{be_bytes_8}
use Rattle.byteorder.specs.Endian.{big_bytes, big_number}
use Rattle.byteorder.specs.Numbers.{big_from-bytes, big_number-reads_back}
use Rattle.rows.specs.declared.entry.Entry.{Entry}
use Rattle.rows.specs.declared.limits.TheConstants.{DATAGRAM_MAX, REPLICAS_MAX, WORKERS_MAX}
use Rattle.wire.specs.declared.datagram.Datagram.{Datagram}
use Rattle.wire.specs.declared.datagram.Datagram.TheVariants as datagrams
use Rattle.wire.specs.declared.faults.WireFault.{WireFault}
use Rattle.wire.specs.declared.head.Head.{Head}
use Rattle.wire.specs.declared.faults.WireFault.TheVariants.{Short, Magic, Version, Kind, Length, Body}
use Rattle.update_log.specs.declared.frame.Frame.{Frame}
use Rattle.update_log.specs.Frames.{IsSendable}
use Rattle.rows.specs.Reading.{entries_filling}
use Rattle.wire.specs.Reading.{reading, is_unknown, body_at, counts_at, head_in, has_base, may_count}
use Rattle.wire.specs.Spelling.{datagram_of, datagram_of_frame, in_turn, spelling, frame_spelling, IsAsk}
use Rattle.wire.specs.Laws.{SpelledAreRead}

-- a frame that is sent reads as itself
pub frame-read : (reads : SpelledAreRead) (frame : Frame) → IsSendable frame → reading (frame_spelling frame) ≡ Ok (datagram_of_frame frame)
frame-read reads frame sendable = reads (datagram_of_frame frame) sendable

byte-below : (k n : ℕ) → byte_at k n < 256
byte-below zero n = omega arith
byte-below (suc k) n = omega arith

pub bytes-below : (count n i : ℕ) → get_or (big_bytes count n) i 0 < 256
bytes-below zero n i = omega arith
bytes-below (suc count) n zero = byte-below count n
bytes-below (suc count) n (suc i) = bytes-below count n i

number_8 : (bytes : List ℕ) → big_number 8 bytes ≡ from_be_bytes w64 bytes
number_8 bytes = omega arith

-- eight bytes keep the lowest 64 bits
bytes-kept : (n : ℕ) → big_bytes 8 (n % 2 ^ 64) ≡ big_bytes 8 n
bytes-kept n = be_bytes_8 (big_bytes 8 n) (n % 2 ^ 64) refl (bytes-below 8 n) (sym (big_from-bytes 8 n []) ∙ number_8 (big_bytes 8 n))

-- such an Ask has a spelling
pub ask-kept : (replica boot request : ℕ) → replica < REPLICAS_MAX → boot < 2 ^ 64 → IsAsk replica boot (request % 2 ^ 64)
ask-kept replica boot request replica_below boot_below =
    record { replica_below = replica_below; boot_below = boot_below; request_below = omega arith }

-- an Ask reads as itself, its request as 64 bits keep it
pub ask-read : (reads : SpelledAreRead) (replica boot request : ℕ) → replica < REPLICAS_MAX → boot < 2 ^ 64
    → reading (spelling (datagrams.Ask replica boot request)) ≡ Ok (datagrams.Ask replica boot (request % 2 ^ 64))
ask-read reads replica boot request replica_below boot_below =
    ap (λ (bytes : List ℕ). reading (datagram_of 2 ((replica ∷ []) ++ big_bytes 8 boot ++ bytes))) (sym (bytes-kept request))
    ∙ reads (datagrams.Ask replica boot (request % 2 ^ 64))
    (ask-kept replica boot request replica_below boot_below)

-- ---- whatever the numbers

-- what holds of each fault, and of what the body may be, holds of what bytes read as
tested : (P : Result Datagram WireFault → Type 0) (bytes : List ℕ) → ((fault : WireFault) → P (Err fault))
    → P (ok_or (body_at (slice_index bytes 3) (drop 6 bytes)) Body) → P (reading bytes)
tested P bytes faults read =
    by (nat_lt (length bytes) 6) (not (big_number 2 bytes == 0x4244)) (not (slice_index bytes 2 == 3)) (is_unknown (slice_index bytes 3))
    (not (big_number 2 (drop 4 bytes) == length bytes) || nat_lt DATAGRAM_MAX (length bytes))
  where
    by : (a b c d e : Bool) → P (cond a (Err Short)
        (cond b (Err Magic) (cond c (Err Version)
        (cond d (Err Kind) (cond e (Err Length) (ok_or (body_at (slice_index bytes 3) (drop 6 bytes)) Body))))))
    by true b c d e = faults Short
    by false true c d e = faults Magic
    by false false true d e = faults Version
    by false false false true e = faults Kind
    by false false false false true = faults Length
    by false false false false false = read

-- a frame, also one of which no spelling is read, reads as no other datagram
pub frame-reads : (P : Result Datagram WireFault → Type 0) → ((fault : WireFault) → P (Err fault))
    → ((worker seq commit : ℕ) (last : Bool) (entries : List Entry) → P (Ok (datagrams.Frame worker seq commit last entries)))
    → (frame : Frame) → P (reading (frame_spelling frame))
frame-reads P faults frames frame =
    tested P (frame_spelling frame) faults
    (by (nat_lt (length body) 20) refused (entries_filling (big_number 2 (drop 18 body)) (drop 20 body)))
  where
    body : List ℕ
    body = drop 6 (frame_spelling frame)

    refused : Bool
    refused =
        not (nat_lt (slice_index body 0) WORKERS_MAX) || (big_number 8 (drop 9 body) == 0) || nat_lt 1 (slice_index body 17)
        || (big_number 2 (drop 18 body) == 0)

    made : List Entry → Datagram
    made entries =
        datagrams.Frame (slice_index body 0) (big_number 8 (drop 1 body)) (big_number 8 (drop 9 body)) (slice_index body 17 == 1) entries

    by : (a b : Bool) (filling : Option (List Entry)) → P (ok_or (cond a None (cond b None (option_map made filling))) Body)
    by true b filling = faults Body
    by false true filling = faults Body
    by false false None = faults Body
    by false false (Some entries) =
        frames (slice_index body 0) (big_number 8 (drop 1 body)) (big_number 8 (drop 9 body)) (slice_index body 17 == 1) entries

-- a base, a number of pieces and counts of 64 bits, and as many base counts as counts
pub record HasMarks (head : Head) : Type 0 where
  pub base_below : head.base < 2 ^ 64
  pub pieces_below : head.pieces < 2 ^ 64
  pub each : length head.lows ≡ length head.counts
  pub lows_below : AllByRecursion (λ low. low < 2 ^ 64) head.lows
  pub counts_below : AllByRecursion (λ count. count < 2 ^ 64) head.counts

-- the base counts are the first eight of each sixteen bytes
lows-back : (lows counts : List ℕ) → length lows ≡ length counts → AllByRecursion (λ low. low < 2 ^ 64) lows
    → counts_at (length counts) (flat_map (big_bytes 8) (in_turn lows counts)) ≡ lows
lows-back [] [] each below = refl
lows-back [] (count ∷ counts) each below = absurd (omega (arith, each))
lows-back (low ∷ lows) [] each below = absurd (omega (arith, each))
lows-back (low ∷ lows) (count ∷ counts) each below =
    let first = big_number-reads_back 8 low (big_bytes 8 count ++ flat_map (big_bytes 8) (in_turn lows counts)) below.0 in
    let rest = lows-back lows counts (omega (arith, each)) below.1 in
    λ i. first i ∷ rest i

-- the counts are the second eight of each sixteen bytes
counts-back : (lows counts : List ℕ) → length lows ≡ length counts → AllByRecursion (λ count. count < 2 ^ 64) counts
    → counts_at (length counts) (drop 8 (flat_map (big_bytes 8) (in_turn lows counts))) ≡ counts
counts-back [] [] each below = refl
counts-back [] (count ∷ counts) each below = absurd (omega (arith, each))
counts-back (low ∷ lows) [] each below = absurd (omega (arith, each))
counts-back (low ∷ lows) (count ∷ counts) each below =
    let first = big_number-reads_back 8 count (flat_map (big_bytes 8) (in_turn lows counts)) below.0 in
    let rest = counts-back lows counts (omega (arith, each)) below.1 in
    λ i. first i ∷ rest i

-- a Head, also one of which no spelling is read, reads as no other datagram, and its boot, request and version as themselves, and so
-- the rest of it
pub head-reads : (P : Result Datagram WireFault → Type 0) → ((fault : WireFault) → P (Err fault))
    → (head : Head) → head.boot < 2 ^ 64 → head.request < 2 ^ 64 → head.version < 2 ^ 64
    → ((base pieces : ℕ) (lows counts : List ℕ)
    → (HasMarks head → ◌≡◌ {A = Head} (record head { base = base; pieces = pieces; lows = lows; counts = counts }) head)
    → P (Ok (datagrams.Head (record head { base = base; pieces = pieces; lows = lows; counts = counts }))))
    → P (reading (spelling (datagrams.Head head)))
head-reads P faults head boot_below request_below version_below heads =
    tested P bytes faults (by (nat_lt (length body) 42) refused (not (has_base (head_in body))))
  where
    bytes : List ℕ
    bytes = spelling (datagrams.Head head)

    body : List ℕ
    body = drop 6 bytes

    refused : Bool
    refused =
        not (nat_lt (slice_index body 0) REPLICAS_MAX) || (slice_index body 41 == 0) || nat_lt WORKERS_MAX (slice_index body 41)
        || not (length body == 42 + 16 * slice_index body 41)

    found : Head
    found = head_in body

    read : P (Ok (datagrams.Head found))
    read =
        let boot = sym (big_number-reads_back 8 head.boot (drop 9 body) boot_below) in
        let request = sym (big_number-reads_back 8 head.request (drop 17 body) request_below) in
        let version = sym (big_number-reads_back 8 head.version (drop 25 body) version_below) in
        let same : ◌≡◌ {A = Head}
        (record head { base = found.base; pieces = found.pieces; lows = found.lows; counts = found.counts }) found =
        λ i. record found { boot = boot i; request = request i; version = version i } in
        subst (λ (h : Head). P (Ok (datagrams.Head h))) same
        (heads found.base found.pieces found.lows found.counts (λ has.
        let base = big_number-reads_back 8 head.base (drop 33 body) has.base_below in
        let pieces = big_number-reads_back 8 head.pieces (drop 41 body) has.pieces_below in
        let lows = lows-back head.lows head.counts has.each has.lows_below in
        let counts = counts-back head.lows head.counts has.each has.counts_below in
        λ i. record head { base = base i; pieces = pieces i; lows = lows i; counts = counts i }))

    by : (a b c : Bool) → P (ok_or (cond a None (cond b None (cond c None (Some (datagrams.Head found))))) Body)
    by true b c = faults Body
    by false true c = faults Body
    by false false true = faults Body
    by false false false = read

-- a Want, also one of which no spelling is read, reads as no other datagram
pub want-reads : (P : Result Datagram WireFault → Type 0) → ((fault : WireFault) → P (Err fault))
    → ((replica worker from : ℕ) → P (Ok (datagrams.Want replica worker from)))
    → (replica worker from : ℕ) → P (reading (spelling (datagrams.Want replica worker from)))
want-reads P faults wants replica worker from = tested P (spelling (datagrams.Want replica worker from)) faults (by refused)
  where
    body : List ℕ
    body = drop 6 (spelling (datagrams.Want replica worker from))

    refused : Bool
    refused =
        not (length body == 10) || not (nat_lt (slice_index body 0) REPLICAS_MAX) || not (nat_lt (slice_index body 1) WORKERS_MAX)

    by : (a : Bool)
        → P (ok_or (cond a None (Some (datagrams.Want (slice_index body 0) (slice_index body 1) (big_number 8 (drop 2 body))))) Body)
    by true = faults Body
    by false = wants (slice_index body 0) (slice_index body 1) (big_number 8 (drop 2 body))

-- a Pull, also one of which no spelling is read, reads as no other datagram
pub pull-reads : (P : Result Datagram WireFault → Type 0) → ((fault : WireFault) → P (Err fault))
    → ((replica base from : ℕ) → P (Ok (datagrams.Pull replica base from)))
    → (replica base from : ℕ) → P (reading (spelling (datagrams.Pull replica base from)))
pull-reads P faults pulls replica base from = tested P (spelling (datagrams.Pull replica base from)) faults (by refused)
  where
    body : List ℕ
    body = drop 6 (spelling (datagrams.Pull replica base from))

    refused : Bool
    refused = not (length body == 17) || not (nat_lt (slice_index body 0) REPLICAS_MAX)

    found : Datagram
    found = datagrams.Pull (slice_index body 0) (big_number 8 (drop 1 body)) (big_number 8 (drop 9 body))

    by : (a : Bool) → P (ok_or (cond a None (Some found)) Body)
    by true = faults Body
    by false = pulls (slice_index body 0) (big_number 8 (drop 1 body)) (big_number 8 (drop 9 body))

-- a Piece, also one of which no spelling is read, reads as no other datagram
pub piece-reads : (P : Result Datagram WireFault → Type 0) → ((fault : WireFault) → P (Err fault))
    → ((base number : ℕ) (last : Bool) (entries : List Entry) → P (Ok (datagrams.Piece base number last entries)))
    → (base number : ℕ) (last : Bool) (entries : List Entry) → P (reading (spelling (datagrams.Piece base number last entries)))
piece-reads P faults pieces base number last entries =
    tested P bytes faults
    (by (nat_lt (length body) 19) refused (entries_filling (big_number 2 (drop 17 body)) (drop 19 body)))
  where
    bytes : List ℕ
    bytes = spelling (datagrams.Piece base number last entries)

    body : List ℕ
    body = drop 6 bytes

    refused : Bool
    refused =
        (big_number 8 body == 0) || nat_lt 1 (slice_index body 16)
        || not (may_count (big_number 8 (drop 8 body)) (slice_index body 16) (big_number 2 (drop 17 body)))

    made : List Entry → Datagram
    made entries = datagrams.Piece (big_number 8 body) (big_number 8 (drop 8 body)) (slice_index body 16 == 1) entries

    by : (a b : Bool) (filling : Option (List Entry)) → P (ok_or (cond a None (cond b None (option_map made filling))) Body)
    by true b filling = faults Body
    by false true filling = faults Body
    by false false None = faults Body
    by false false (Some entries) =
        pieces (big_number 8 body) (big_number 8 (drop 8 body)) (slice_index body 16 == 1) entries

-- What a line sends is true of its list.
use Rattle.std.proofs.Common.{◌≡◌, ℕ, zero, suc, ◌+◌, ◌*◌, ◌%◌, ◌^◌, ◌<◌, ◌≤◌, Bool, true, false, cond, not, ◌||◌, ◌==◌, List, []}
use Rattle.std.proofs.Common.{◌∷◌}
use Rattle.std.proofs.Common.{◌++◌, length, drop, get_or, Option, Some, None, Result, Ok, Err, nat_lt, refl, sym, ap, subst, ◌∙◌}
use Rattle.std.proofs.Common.{inl, inr, arith}
use Rattle.std.specs.List.{slice_get, slice_index}
use Rattle.std.specs.Option.{ok_or, option_map}
use Rattle.std.specs.Int.{byte_at, w64, from_be_bytes}
use Rattle.std.proofs.lemmas.Bool.{ltb-true, true≢false}
use Rattle.std.proofs.lemmas.Nat.{be_bytes_8}
use Rattle.std.proofs.lemmas.Option.{none-some}
use Rattle.byteorder.specs.Endian.{big_bytes, big_number}
use Rattle.byteorder.specs.Numbers.{big_from-bytes}
use Rattle.rows.specs.declared.commit.Commit.{Commit}
use Rattle.rows.specs.declared.entry.Entry.{Entry}
use Rattle.rows.specs.declared.limits.TheConstants.{REPLICAS_MAX, WORKERS_MAX}
use Rattle.rows.specs.Reading.{entries_filling}
use Rattle.rows.specs.Shape.{Shape}
use Rattle.wire.specs.declared.datagram.Datagram.{Datagram}
use Rattle.wire.specs.declared.datagram.Datagram.TheVariants as datagrams
use Rattle.wire.specs.declared.faults.WireFault.{WireFault}
use Rattle.wire.specs.declared.head.Head.{Head}
use Rattle.wire.specs.declared.faults.WireFault.TheVariants.{Body}
use Rattle.update_log.specs.declared.frame.Frame.{Frame}
use Rattle.update_log.specs.Frames.{IsSendable}
use Rattle.update_log.specs.Images.{pieces_at}
use Rattle.update_log.specs.Streams.{stream_of}
use Rattle.wire.specs.Reading.{reading, head_in, has_base, may_count}
use Rattle.wire.specs.Spelling.{datagram_of, datagram_of_frame, head_kind, counts_spelling, spelling, frame_spelling, IsAsk}
use Rattle.wire.specs.Spelling.{HasDatagramSpelling}
use Rattle.wire.specs.Laws.{SpelledAreRead}
use Rattle.primary.specs.Sending.{head_of, pieces_from, pieces_of_base}
use Rattle.dispatcher.specs.Feeding.{Tells, TruthStays, BytesKeepFed}
use Rattle.dispatcher.specs.Images.{piece_frame, image_frames, frames_of_base}
use Rattle.desk.specs.Answers.{IsReadable, IsBaseOf}
use Rattle.shared.specs.Laws.{IsOfList}
use Rattle.sockets.specs.Feeding.{SentKeepsFed}
use Rattle.sockets.proofs.Tested.{tested}
use Rattle.sockets.proofs.Streams.{all-get, frame-at, counts-length, counts-are, marks-spelled, counts-below}

-- ---- frames

frame-tells : (reads : SpelledAreRead) (shape : Shape) (workers : ℕ) (list : List Commit) (worker seq : ℕ) (frame : Frame)
    → IsReadable workers shape list → slice_get (stream_of list worker) seq ≡ Some frame
    → Tells shape workers list (reading (frame_spelling frame))
frame-tells reads shape workers list worker seq frame readable h =
    let at = frame-at list worker seq frame h in
    let sendable = all-get IsSendable (stream_of list worker) (readable.sendable worker) seq frame h in
    subst (Tells shape workers list) (sym (reads (datagram_of_frame frame) sendable))
    (ap (λ (w : ℕ). slice_get (stream_of list w) frame.seq) at.worker_is
    ∙ ap (slice_get (stream_of list worker)) at.seq_is ∙ h)

-- ---- Heads

byte-below : (k n : ℕ) → byte_at k n < 256
byte-below zero n = omega arith
byte-below (suc k) n = omega arith

bytes-below : (count n i : ℕ) → get_or (big_bytes count n) i 0 < 256
bytes-below zero n i = omega arith
bytes-below (suc count) n zero = byte-below count n
bytes-below (suc count) n (suc i) = bytes-below count n i

number_8 : (bytes : List ℕ) → big_number 8 bytes ≡ from_be_bytes w64 bytes
number_8 bytes = omega arith

-- eight bytes keep the lowest 64 bits
bytes-kept : (n : ℕ) → big_bytes 8 (n % 2 ^ 64) ≡ big_bytes 8 n
bytes-kept n = be_bytes_8 (big_bytes 8 n) (n % 2 ^ 64) refl (bytes-below 8 n) (sym (big_from-bytes 8 n []) ∙ number_8 (big_bytes 8 n))

-- a Head has the spelling of one whose boot and request are of 64 bits
abbrev kept : Head → Head
kept head = record head { boot = head.boot % 2 ^ 64; request = head.request % 2 ^ 64 }

head-kept : (head : Head) → spelling (datagrams.Head (kept head)) ≡ spelling (datagrams.Head head)
head-kept head =
    let one = bytes-kept head.boot in
    let other = bytes-kept head.request in
    λ i. datagram_of head_kind (((head.replica ∷ []) ++ one i ++ other i ++ big_bytes 8 head.version ++ big_bytes 8 head.base
    ++ big_bytes 8 head.pieces ++ (length head.counts ∷ [])) ++ counts_spelling head)

-- a Head for a replica that cannot be is no datagram
head-refused : (P : Result Datagram WireFault → Type 0) → ((fault : WireFault) → P (Err fault))
    → (head : Head) → nat_lt head.replica REPLICAS_MAX ≡ false → P (reading (spelling (datagrams.Head head)))
head-refused P faults head above = tested P bytes faults (by (nat_lt (length body) 42) (nat_lt (slice_index body 0) REPLICAS_MAX) above)
  where
    bytes : List ℕ
    bytes = spelling (datagrams.Head head)

    body : List ℕ
    body = drop 6 bytes

    by : (a small : Bool) → small ≡ false → P (ok_or (cond a None
        (cond (not small || (slice_index body 41 == 0) || nat_lt WORKERS_MAX (slice_index body 41)
        || not (length body == 42 + 16 * slice_index body 41)) None
        (cond (not (has_base (head_in body))) None (Some (datagrams.Head (head_in body)))))) Body)
    by true small e = faults Body
    by false true e = absurd (true≢false e)
    by false false e = faults Body

head-tells : (reads : SpelledAreRead) (shape : Shape) (workers : ℕ) (list : List Commit) (base version replica boot request : ℕ)
    → IsReadable workers shape list → IsBaseOf shape list base → base ≤ version → version ≤ length list
    → Tells shape workers list (reading (spelling (datagrams.Head (head_of shape list base version workers replica boot request))))
head-tells reads shape workers list base version replica boot request readable is_base on within = by (nat_lt replica REPLICAS_MAX) refl
  where
    head : Head
    head = head_of shape list base version workers replica boot request

    by : (is : Bool) → nat_lt replica REPLICAS_MAX ≡ is → Tells shape workers list (reading (spelling (datagrams.Head head)))
    by false e = head-refused (Tells shape workers list) (λ fault. tt) head e
    by true e =
        let ask : IsAsk replica (boot % 2 ^ 64) (request % 2 ^ 64) =
        record { replica_below = ltb-true replica REPLICAS_MAX e; boot_below = omega arith; request_below = omega arith } in
        let below : version < 2 ^ 64 = omega (arith, within, readable.numbered.commits_below) in
        let marks = marks-spelled shape list base version workers readable.some readable.few on below
        (λ worker. omega (arith, counts-below list version worker, readable.numbered.frames_below worker)) is_base.counted in
        let read = reads (datagrams.Head (kept head)) (ask, marks) in
        subst (λ (bytes : List ℕ). Tells shape workers list (reading bytes)) (head-kept head)
        (subst (Tells shape workers list) (sym read)
        (record {
          below = within;
          base_within = on;
          counted = counts-length list version workers;
          counts_are = counts-are list version workers readable.legal.legal.each;
          lows_counted = counts-length list base workers;
          lows_are = counts-are list base workers readable.legal.legal.each;
          pieces_are = refl;
        }))

-- ---- Pieces

-- what stands at a place of the Pieces of a base is a Piece, and the frames of the image have it there
record IsPieceAt (base number : ℕ) (cut : List (List Entry)) (i : ℕ) (piece : Datagram) : Type 0 where
  last : Bool
  entries : List Entry
  is : piece ≡ datagrams.Piece base (number + i) last entries
  there : slice_get (image_frames base number cut) i ≡ Some (piece_frame base (number + i) last entries)

piece-at : (base number : ℕ) (cut : List (List Entry)) (i : ℕ) (piece : Datagram) → slice_get (pieces_from base number cut) i ≡ Some piece
    → IsPieceAt base number cut i piece
piece-at base number [] i piece h = absurd (none-some piece h)
piece-at base number (entries ∷ cut) zero piece h =
    let here : number ≡ number + 0 = omega arith in
    record {
      last = length cut == 0;
      entries = entries;
      is = sym (cc h) ∙ ap (λ (n : ℕ). datagrams.Piece base n (length cut == 0) entries) here;
      there = ap (λ (n : ℕ). Some (piece_frame base n (length cut == 0) entries)) here;
    }
piece-at base number (entries ∷ cut) (suc i) piece h =
    let behind = piece-at base (number + 1) cut i piece h in
    let index : number + 1 + i ≡ number + suc i = omega arith in
    record {
      last = behind.last;
      entries = behind.entries;
      is = behind.is ∙ ap (λ (n : ℕ). datagrams.Piece base n behind.last behind.entries) index;
      there = behind.there ∙ ap (λ (n : ℕ). Some (piece_frame base n behind.last behind.entries)) index;
    }

piece-tells : (reads : SpelledAreRead) (shape : Shape) (workers : ℕ) (list : List Commit) (base i : ℕ) (piece : Datagram)
    → IsBaseOf shape list base → slice_get (pieces_of_base shape list base) i ≡ Some piece
    → Tells shape workers list (reading (spelling piece))
piece-tells reads shape workers list base i piece is_base h =
    let spelled = all-get HasDatagramSpelling (pieces_of_base shape list base) is_base.spelled i piece h in
    let at = piece-at base 0 (pieces_at shape list base) i piece h in
    let index : 0 + i ≡ i = omega arith in
    subst (Tells shape workers list) (sym (reads piece spelled ∙ ap (λ (datagram : Datagram). Ok datagram) at.is))
    (is_base.within, ap (slice_get (frames_of_base shape list base)) index ∙ at.there)

-- ---- all

sent-tells : (reads : SpelledAreRead) (workers : ℕ) (shape : Shape) (list : List Commit) (packet : List ℕ) → IsReadable workers shape list
    → IsOfList shape workers list packet → Tells shape workers list (reading packet)
sent-tells reads workers shape list packet readable (inl is) =
    subst (λ (bytes : List ℕ). Tells shape workers list (reading bytes)) (sym is.4)
    (frame-tells reads shape workers list is.0 is.1 is.2 readable is.3)
sent-tells reads workers shape list packet readable (inr (inl is)) =
    subst (λ (bytes : List ℕ). Tells shape workers list (reading bytes)) (sym is.8)
    (head-tells reads shape workers list is.3 is.4 is.0 is.1 is.2 readable is.5 is.6 is.7)
sent-tells reads workers shape list packet readable (inr (inr is)) =
    subst (λ (bytes : List ℕ). Tells shape workers list (reading bytes)) (sym is.5)
    (piece-tells reads shape workers list is.0 is.1 is.2 is.3 is.4)

pub sent-keeps : SpelledAreRead → TruthStays → BytesKeepFed → SentKeepsFed
sent-keeps reads truth bytes shape workers sent list r packet readable begins is same fed =
    let told = truth shape workers sent begins.0 (reading packet) (sent-tells reads workers shape sent packet readable is) in
    bytes shape list r packet fed
    (subst (λ (n : ℕ). Tells shape n list (reading packet)) (sym same)
    (subst (λ (l : List Commit). Tells shape workers l (reading packet)) begins.1 told))

-- How long spellings are, and the parts that a writer joins.
use Rattle.std.proofs.Common.{◌≡◌, ℕ, ◌+◌, ◌*◌, ◌<◌, ◌≤◌, ◌↔◌, Bool, List, [], ◌∷◌, ◌++◌, length, take, drop, Result, Ok, Err, IfOk, IsErr}
use Rattle.std.proofs.Common.{refl, sym, ap, ◌∙◌, append_assoc, length-append, arith}
use Rattle.std.specs.List.{flat_map}
use Rattle.std.proofs.lemmas.List.{drop-drop, take_at}
use Rattle.byteorder.specs.Endian.{big_bytes}
use Rattle.rows.specs.declared.entry.Entry.{Entry}
use Rattle.rows.specs.declared.entry.Entry.TheVariants.{Insert, Patch, Delete, AddColumn}
use Rattle.rows.specs.declared.limits.TheConstants.{DATAGRAM_MAX}
use Rattle.rows.specs.Spelling.{entry_spelling}
use Rattle.wire.specs.declared.faults.TooSmall.{TooSmall}
use Rattle.wire.specs.declared.datagram.Datagram.{Datagram}
use Rattle.wire.specs.declared.datagram.Datagram.TheVariants.{Frame, Ask, Head, Want, Piece, Pull}
use Rattle.wire.specs.declared.head.Head as heads
use Rattle.wire.specs.Spelling.{spelling, HasDatagramSpelling, datagram_front, frame_head, head_head, in_turn, counts_spelling, piece_head}
use Rattle.wire.proofs.Counting.{length-in_turn}
use Rattle.wire.proofs.Lists.{pointwise-length}

-- no entry is spelled by nothing
entry_some : (entry : Entry) → 0 < length (entry_spelling entry)
entry_some (Insert table row content) = omega arith
entry_some (Patch table row offset content) = omega arith
entry_some (Delete table row) = omega arith
entry_some (AddColumn table default) = omega arith

-- so there are at most as many entries as bytes
pub entries_few : (entries : List Entry) → length entries ≤ length (flat_map entry_spelling entries)
entries_few [] = omega arith
entries_few (entry ∷ entries) =
    omega (arith, entry_some entry, entries_few entries, length-append (entry_spelling entry) (flat_map entry_spelling entries))

length-numbers : (numbers : List ℕ) → length (flat_map (big_bytes 8) numbers) ≡ 8 * length numbers
length-numbers [] = refl
length-numbers (number ∷ numbers) = let rest = length-numbers numbers in omega arith

pub length-counts : (head : heads.Head) → length head.lows ≡ length head.counts → length (counts_spelling head) ≡ 16 * length head.counts
length-counts head same =
    omega (arith, length-numbers (in_turn head.lows head.counts), length-in_turn head.lows head.counts same)

pub spelling_few : (datagram : Datagram) → HasDatagramSpelling datagram → length (spelling datagram) ≤ DATAGRAM_MAX
spelling_few (Frame worker seq commit last entries) fits = omega (arith, fits.few)
spelling_few (Ask replica boot request) fits = omega arith
spelling_few (Head head) fits =
    let same = pointwise-length head.lows head.counts fits.1.lows_within in
    omega (arith, length-counts head same, fits.1.counted.few)
spelling_few (Want replica worker from) fits = omega arith
spelling_few (Piece base number last entries) fits = omega (arith, fits.few)
spelling_few (Pull replica base from) fits = omega arith

pub head_parts : (head : heads.Head) → length head.lows ≡ length head.counts
    → (datagram_front 3 (48 + 16 * length head.counts) ++ head_head head) ++ counts_spelling head ≡ spelling (Head head)
head_parts head same =
    let body = head_head head ++ counts_spelling head in
    let total : 48 + 16 * length head.counts ≡ 6 + length body = omega (arith, length-counts head same) in
    ap (λ (n : ℕ). datagram_front 3 n ++ body) total

pub frame_parts : (worker seq commit : ℕ) (last : Bool) (entries : List Entry)
    → (datagram_front 1 (26 + length (flat_map entry_spelling entries)) ++ frame_head worker seq commit last (length entries))
    ++ flat_map entry_spelling entries ≡ spelling (Frame worker seq commit last entries)
frame_parts worker seq commit last entries =
    let body = frame_head worker seq commit last (length entries) ++ flat_map entry_spelling entries in
    let total : 26 + length (flat_map entry_spelling entries) ≡ 6 + length body = omega arith in
    ap (λ (n : ℕ). datagram_front 1 n ++ body) total

pub piece_parts : (base number : ℕ) (last : Bool) (entries : List Entry)
    → (datagram_front 5 (25 + length (flat_map entry_spelling entries)) ++ piece_head base number last (length entries))
    ++ flat_map entry_spelling entries ≡ spelling (Piece base number last entries)
piece_parts base number last entries =
    let body = piece_head base number last (length entries) ++ flat_map entry_spelling entries in
    let total : 25 + length (flat_map entry_spelling entries) ≡ 6 + length body = omega arith in
    ap (λ (n : ℕ). datagram_front 5 n ++ body) total

-- what is said of two parts, said of what they join to
pub joined_ok : (result : Result ℕ TooSmall) (front back old new spelled : List ℕ) → front ++ back ≡ spelled
    → IfOk result (λ len. (len ≡ length front + length back) × (new ≡ (front ++ back) ++ drop len old))
    → IfOk result (λ len. (len ≡ length spelled) × (new ≡ spelled ++ drop len old))
joined_ok (Ok len) front back old new spelled parts h =
    (omega (arith, length-append front back, ap length parts, h.0), h.1 ∙ ap (λ (t : List ℕ). t ++ drop len old) parts)
joined_ok (Err fault) front back old new spelled parts h = tt

pub joined_small : (result : Result ℕ TooSmall) (front back old spelled : List ℕ) → front ++ back ≡ spelled
    → (IsErr result ↔ (length old < length front + length back)) → (IsErr result ↔ (length old < length spelled))
joined_small result front back old spelled parts h =
    let size : length front + length back ≡ length spelled = sym (length-append front back) ∙ ap length parts in
    (λ e. rw (← size) (h.0 e), λ l. h.1 (omega arith))

-- two parts, each written to the front of what is left of the buffer
pub both_written : (front back old : List ℕ) (len : ℕ) → len ≡ length back
    → front ++ (back ++ drop (length back) (drop (length front) old)) ≡ (front ++ back) ++ drop (length front + len) old
both_written front back old len is =
    let rest : drop (length back) (drop (length front) old) ≡ drop (length front + len) old =
    ap (λ (n : ℕ). drop n (drop (length front) old)) (sym is) ∙ drop-drop len (length front) old in
    ap (λ (t : List ℕ). front ++ (back ++ t)) rest ∙ sym (append_assoc front back (drop (length front + len) old))

-- what a buffer holds in front
pub front_is : (front rest buffer : List ℕ) (len : ℕ) → len ≡ length front → buffer ≡ front ++ rest → take len buffer ≡ front
front_is front rest buffer len size is = ap (take len) is ∙ take_at front rest len (sym size)

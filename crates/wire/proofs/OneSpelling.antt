-- Datagrams that share a spelling are equal, and no spelling is a proper beginning of another.
use Rattle.std.proofs.Common.{◌≡◌, ℕ, ◌+◌, ◌≤◌, List, [], ◌++◌, length, drop, sym, ap, ◌∙◌, length-append, arith}
use Rattle.std.specs.List.{flat_map}
use Rattle.std.proofs.lemmas.List.{append-nil, nil_from_length}
use Rattle.byteorder.specs.Endian.{big_number}
use Rattle.byteorder.specs.Numbers.{big_number-reads_back}
use Rattle.rows.specs.declared.limits.TheConstants.{DATAGRAM_MAX}
use Rattle.rows.specs.Spelling.{entry_spelling}
use Rattle.rows.specs.Laws.{SpelledAreFound}
use Rattle.wire.specs.declared.datagram.Datagram.{Datagram}
use Rattle.wire.specs.declared.datagram.Datagram.TheVariants.{Frame, Ask, Head, Want, Piece, Pull}
use Rattle.wire.specs.Spelling.{datagram_of, frame_head, ask_body, head_head, counts_spelling, want_body, piece_head, pull_body}
use Rattle.wire.specs.Spelling.{spelling, HasDatagramSpelling}
use Rattle.wire.specs.Reading.{reading}
use Rattle.wire.proofs.Sizes.{spelling_few}
use Rattle.wire.proofs.SpelledIsRead.{reading-again}

-- the total length stands in the fifth and the sixth byte
total_in_front : (kind : ℕ) (body rest : List ℕ) → 6 + length body ≤ DATAGRAM_MAX
    → big_number 2 (drop 4 (datagram_of kind body ++ rest)) ≡ 6 + length body
total_in_front kind body rest few = big_number-reads_back 2 (6 + length body) (body ++ rest) (omega arith)

total_is : (datagram : Datagram) (rest : List ℕ) → HasDatagramSpelling datagram
    → big_number 2 (drop 4 (spelling datagram ++ rest)) ≡ length (spelling datagram)
total_is (Frame worker seq commit last entries) rest fits =
    let few = spelling_few (Frame worker seq commit last entries) fits in
    total_in_front 1 (frame_head worker seq commit last (length entries) ++ flat_map entry_spelling entries) rest (omega arith)
    ∙ omega arith
total_is (Ask replica boot request) rest fits = total_in_front 2 (ask_body replica boot request) rest (omega arith)
total_is (Head head) rest fits =
    let few = spelling_few (Head head) fits in
    total_in_front 3 (head_head head ++ counts_spelling head) rest (omega arith) ∙ omega arith
total_is (Want replica worker from) rest fits = total_in_front 4 (want_body replica worker from) rest (omega arith)
total_is (Piece base number last entries) rest fits =
    let few = spelling_few (Piece base number last entries) fits in
    total_in_front 5 (piece_head base number last (length entries) ++ flat_map entry_spelling entries) rest (omega arith)
    ∙ omega arith
total_is (Pull replica base from) rest fits = total_in_front 6 (pull_body replica base from) rest (omega arith)

-- what shares a spelling reads as one datagram
pub is_one_to_one : (law : SpelledAreFound) (d e : Datagram) → HasDatagramSpelling d → HasDatagramSpelling e → spelling d ≡ spelling e
    → d ≡ e
is_one_to_one law d e fits_d fits_e same =
    let found = sym (reading-again law d fits_d) ∙ ap reading same ∙ reading-again law e fits_e in
    cc

pub is_prefix_free : (law : SpelledAreFound) (d e : Datagram) (rest : List ℕ) → HasDatagramSpelling d → HasDatagramSpelling e
    → spelling d ++ rest ≡ spelling e → (d ≡ e) × (rest ≡ [])
is_prefix_free law d e rest fits_d fits_e same =
    let total : length (spelling d) ≡ length (spelling e) =
    sym (total_is d rest fits_d) ∙ ap (λ (bytes : List ℕ). big_number 2 (drop 4 bytes)) (same ∙ sym (append-nil (spelling e)))
    ∙ total_is e [] fits_e in
    let none : rest ≡ [] = nil_from_length rest (omega (arith, length-append (spelling d) rest, ap length same)) in
    let whole : spelling d ≡ spelling e = sym (append-nil (spelling d)) ∙ ap (λ (t : List ℕ). spelling d ++ t) (sym none) ∙ same in
    (is_one_to_one law d e fits_d fits_e whole, none)

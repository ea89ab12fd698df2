-- A datagram that is spelled so is read.
use Rattle.std.proofs.Common.{◌≡◌, ℕ, ◌+◌, ◌≤◌, ◌<◌, ◌^◌, Bool, true, false, eqb, ltb, not, ◌||◌, List, [], ◌++◌, length, drop, Some, Ok}
use Rattle.std.proofs.Common.{refl, sym, ap, ◌∙◌, arith}
use Rattle.std.specs.List.{flat_map}
use Rattle.std.proofs.lemmas.Bool.{le-ltb, eq-eqb, not_from_true, or_from}
use Rattle.byteorder.specs.Endian.{big_number}
use Rattle.byteorder.specs.Numbers.{big_number-reads_back}
use Rattle.rows.specs.declared.entry.Entry.{Entry}
use Rattle.rows.specs.declared.limits.TheConstants.{DATAGRAM_MAX}
use Rattle.rows.specs.Spelling.{entry_spelling}
use Rattle.rows.specs.Laws.{SpelledAreFound}
use Rattle.wire.specs.declared.datagram.Datagram.{Datagram}
use Rattle.wire.specs.declared.datagram.Datagram.TheVariants.{Frame, Ask, Head, Want, Piece, Pull}
use Rattle.wire.specs.declared.head.Head as heads
use Rattle.rows.specs.Reading.{entries_filling}
use Rattle.update_log.specs.Frames.{IsFrame}
use Rattle.wire.specs.Spelling.{datagram_of, frame_head, ask_body, head_head, counts_spelling, want_body, piece_head, pull_body}
use Rattle.wire.specs.Spelling.{IsAsk, IsPiece, spelling, HasDatagramSpelling, flag}
use Rattle.wire.specs.Reading.{reading, is_unknown, body_at, frame_at, ask_at, counts_at, head_in, has_base, head_at, want_at}
use Rattle.wire.specs.Reading.{piece_at, pull_at}
use Rattle.wire.proofs.Bases.{has-base}
use Rattle.wire.proofs.Bodies.{frame_at-is, ask_at-is, head_at-is, want_at-is, piece_at-is, pull_at-is}
use Rattle.wire.proofs.Counting.{lows_at-again, counts_at-again}
use Rattle.wire.proofs.Sizes.{entries_few, length-counts, spelling_few}
use Rattle.wire.proofs.Lists.{pointwise-length, pointwise-below}

flag_again : (last : Bool) → eqb (flag last) 1 ≡ last
flag_again false = refl
flag_again true = refl

flag_few : (last : Bool) → flag last ≤ 1
flag_few false = omega arith
flag_few true = omega arith

frame_at-again : (law : SpelledAreFound) (worker seq commit : ℕ) (last : Bool) (entries : List Entry) → IsFrame worker seq commit entries
    → frame_at (frame_head worker seq commit last (length entries) ++ flat_map entry_spelling entries) ≡ Some
    (Frame worker seq commit last entries)
frame_at-again law worker seq commit last entries fits =
    let joined = flat_map entry_spelling entries in
    let body : List ℕ = frame_head worker seq commit last (length entries) ++ joined in
    let count_is : big_number 2 (drop 18 body) ≡ length entries =
    big_number-reads_back 2 (length entries) joined (omega (arith, fits.few, entries_few entries)) in
    let commit_is : big_number 8 (drop 9 body) ≡ commit = big_number-reads_back 8 commit (drop 17 body) fits.commit_below in
    let seq_is : big_number 8 (drop 1 body) ≡ seq = big_number-reads_back 8 seq (drop 9 body) fits.seq_below in
    let filled : entries_filling (big_number 2 (drop 18 body)) joined ≡ Some entries =
    ap (λ (n : ℕ). entries_filling n joined) count_is ∙ law entries fits.spelled in
    frame_at-is body entries (record {
      long = omega arith;
      worker = fits.worker_below;
      numbered = omega (arith, commit_is, fits.commit_numbered);
      flag = flag_few last;
      some = omega (arith, count_is, fits.some);
    }) filled
    ∙ ap (λ (n : ℕ). Some (Frame worker n (big_number 8 (drop 9 body)) (eqb (flag last) 1) entries)) seq_is
    ∙ ap (λ (n : ℕ). Some (Frame worker seq n (eqb (flag last) 1) entries)) commit_is
    ∙ ap (λ (b : Bool). Some (Frame worker seq commit b entries)) (flag_again last)

ask_at-again : (replica boot request : ℕ) → IsAsk replica boot request
    → ask_at (ask_body replica boot request) ≡ Some (Ask replica boot request)
ask_at-again replica boot request fits =
    let body : List ℕ = ask_body replica boot request in
    let boot_is : big_number 8 (drop 1 body) ≡ boot = big_number-reads_back 8 boot (drop 9 body) fits.boot_below in
    let request_is : big_number 8 (drop 9 body) ≡ request = big_number-reads_back 8 request [] fits.request_below in
    ask_at-is body (record { whole = refl; replica = fits.replica_below })
    ∙ ap (λ (n : ℕ). Some (Ask replica n (big_number 8 (drop 9 body)))) boot_is
    ∙ ap (λ (n : ℕ). Some (Ask replica boot n)) request_is

head_at-again : (head : heads.Head) → HasDatagramSpelling (Head head) → head_at (head_head head ++ counts_spelling head) ≡ Some (Head head)
head_at-again head fits =
    let marks = fits.1 in
    let body : List ℕ = head_head head ++ counts_spelling head in
    let same = pointwise-length head.lows head.counts marks.lows_within in
    let base_below : head.base < 2 ^ 64 = omega (arith, marks.base_within, marks.version_below) in
    let boot_is : big_number 8 (drop 1 body) ≡ head.boot = big_number-reads_back 8 head.boot (drop 9 body) fits.0.boot_below in
    let request_is : big_number 8 (drop 9 body) ≡ head.request =
    big_number-reads_back 8 head.request (drop 17 body) fits.0.request_below in
    let version_is : big_number 8 (drop 17 body) ≡ head.version =
    big_number-reads_back 8 head.version (drop 25 body) marks.version_below in
    let base_is : big_number 8 (drop 25 body) ≡ head.base = big_number-reads_back 8 head.base (drop 33 body) base_below in
    let pieces_is : big_number 8 (drop 33 body) ≡ head.pieces =
    big_number-reads_back 8 head.pieces (drop 41 body) marks.pieces_below in
    let lows_are : counts_at (length head.counts) (counts_spelling head) ≡ head.lows =
    lows_at-again head.lows head.counts same (pointwise-below head.lows head.counts marks.lows_within marks.counted.below) in
    let counts_are : counts_at (length head.counts) (drop 8 (counts_spelling head)) ≡ head.counts =
    counts_at-again head.lows head.counts same marks.counted.below in
    let head_is : head_in body ≡ head = λ i. record {
      replica = head.replica;
      boot = boot_is i;
      request = request_is i;
      version = version_is i;
      base = base_is i;
      pieces = pieces_is i;
      lows = lows_are i;
      counts = counts_are i;
    } in
    head_at-is body (record {
      long = omega arith;
      replica = fits.0.replica_below;
      some = marks.counted.some;
      few = marks.counted.few;
      whole = omega (arith, length-counts head same);
      based = ap has_base head_is ∙ has-base head marks;
    })
    ∙ ap (λ (h : heads.Head). Some (Head h)) head_is

want_at-again : (replica worker from : ℕ) → HasDatagramSpelling (Want replica worker from)
    → want_at (want_body replica worker from) ≡ Some (Want replica worker from)
want_at-again replica worker from fits =
    let body : List ℕ = want_body replica worker from in
    let from_is : big_number 8 (drop 2 body) ≡ from = big_number-reads_back 8 from [] fits.2 in
    want_at-is body (record { whole = refl; replica = fits.0; worker = fits.1 })
    ∙ ap (λ (n : ℕ). Some (Want replica worker n)) from_is

piece_at-again : (law : SpelledAreFound) (base number : ℕ) (last : Bool) (entries : List Entry) → IsPiece base number last entries
    → piece_at (piece_head base number last (length entries) ++ flat_map entry_spelling entries) ≡ Some (Piece base number last entries)
piece_at-again law base number last entries fits =
    let joined = flat_map entry_spelling entries in
    let body : List ℕ = piece_head base number last (length entries) ++ joined in
    let count_is : big_number 2 (drop 17 body) ≡ length entries =
    big_number-reads_back 2 (length entries) joined (omega (arith, fits.few, entries_few entries)) in
    let number_is : big_number 8 (drop 8 body) ≡ number = big_number-reads_back 8 number (drop 16 body) fits.number_below in
    let base_is : big_number 8 body ≡ base = big_number-reads_back 8 base (drop 8 body) fits.base_below in
    let filled : entries_filling (big_number 2 (drop 17 body)) joined ≡ Some entries =
    ap (λ (n : ℕ). entries_filling n joined) count_is ∙ law entries fits.spelled in
    piece_at-is body entries (record {
      long = omega arith;
      based = omega (arith, base_is, fits.based);
      flag = flag_few last;
      empty = λ none. let empty = fits.empty (sym count_is ∙ none) in (number_is ∙ empty.0, ap flag empty.1);
    }) filled
    ∙ ap (λ (n : ℕ). Some (Piece n (big_number 8 (drop 8 body)) (eqb (flag last) 1) entries)) base_is
    ∙ ap (λ (n : ℕ). Some (Piece base n (eqb (flag last) 1) entries)) number_is
    ∙ ap (λ (b : Bool). Some (Piece base number b entries)) (flag_again last)

pull_at-again : (replica base from : ℕ) → HasDatagramSpelling (Pull replica base from)
    → pull_at (pull_body replica base from) ≡ Some (Pull replica base from)
pull_at-again replica base from fits =
    let body : List ℕ = pull_body replica base from in
    let base_is : big_number 8 (drop 1 body) ≡ base = big_number-reads_back 8 base (drop 9 body) fits.1 in
    let from_is : big_number 8 (drop 9 body) ≡ from = big_number-reads_back 8 from [] fits.2 in
    pull_at-is body (record { whole = refl; replica = fits.0 })
    ∙ ap (λ (n : ℕ). Some (Pull replica n (big_number 8 (drop 9 body)))) base_is
    ∙ ap (λ (n : ℕ). Some (Pull replica base n)) from_is

-- ---- the six bytes in front

module _ (kind : ℕ) (body : List ℕ) where
  -- the tests of the total length
  refuses_total : Bool
  refuses_total =
      not (eqb (big_number 2 (drop 4 (datagram_of kind body))) (length (datagram_of kind body)))
      || ltb DATAGRAM_MAX (length (datagram_of kind body))

  takes_total : 6 + length body ≤ DATAGRAM_MAX → refuses_total ≡ false
  unfolding refuses_total
  takes_total few =
      let total : big_number 2 (drop 4 (datagram_of kind body)) ≡ 6 + length body =
      big_number-reads_back 2 (6 + length body) body (omega arith) in
      or_from _ _ (not_from_true _ (eq-eqb _ _ (total ∙ omega arith))) (le-ltb _ _ (omega arith))

  reading-front : (found : Datagram) → is_unknown kind ≡ false → 6 + length body ≤ DATAGRAM_MAX → body_at kind body ≡ Some found
      → reading (datagram_of kind body) ≡ Ok found
  unfolding refuses_total
  reading-front found known few is =
      let long : ltb (length (datagram_of kind body)) 6 ≡ false = le-ltb _ _ (omega arith) in
      let whole = takes_total few in
      rw (long, known, whole, is) refl

pub reading-again : (law : SpelledAreFound) (datagram : Datagram) → HasDatagramSpelling datagram → reading (spelling datagram) ≡ Ok datagram
reading-again law (Frame worker seq commit last entries) fits =
    let few = spelling_few (Frame worker seq commit last entries) fits in
    reading-front 1 (frame_head worker seq commit last (length entries) ++ flat_map entry_spelling entries)
    (Frame worker seq commit last entries) refl (omega arith) (frame_at-again law worker seq commit last entries fits)
reading-again law (Ask replica boot request) fits =
    reading-front 2 (ask_body replica boot request) (Ask replica boot request) refl (omega arith) (ask_at-again replica boot request fits)
reading-again law (Head head) fits =
    let few = spelling_few (Head head) fits in
    reading-front 3 (head_head head ++ counts_spelling head) (Head head) refl (omega arith) (head_at-again head fits)
reading-again law (Want replica worker from) fits =
    reading-front 4 (want_body replica worker from) (Want replica worker from) refl (omega arith) (want_at-again replica worker from fits)
reading-again law (Piece base number last entries) fits =
    let few = spelling_few (Piece base number last entries) fits in
    reading-front 5 (piece_head base number last (length entries) ++ flat_map entry_spelling entries)
    (Piece base number last entries) refl (omega arith) (piece_at-again law base number last entries fits)
reading-again law (Pull replica base from) fits =
    reading-front 6 (pull_body replica base from) (Pull replica base from) refl (omega arith) (pull_at-again replica base from fits)

-- A datagram that is read is spelled so.
use Rattle.std.proofs.Common.{◌≡◌, ℕ, ◌+◌, ◌≤◌, false, cond, eqb, ltb, not, ◌||◌, List, [], ◌∷◌, ◌++◌, length, get_or, drop}
use Rattle.std.proofs.Common.{Option, Some, None, Result, Ok, Err, IfOk, refl, sym, ap, subst, ◌∙◌, arith, length-drop, zero, suc}
use Rattle.std.specs.Option.{ok_or}
use Rattle.std.specs.List.{flat_map}
use Rattle.std.proofs.lemmas.Bool.{ltb-false, eqb-true, eq-eqb, not-false, or_parts}
use Rattle.std.proofs.lemmas.Bool.Decides.{nat_tests}
use Rattle.std.proofs.lemmas.List.{nil_from_length, drop_more, drop-drop}
use Rattle.byteorder.specs.Endian.{big_bytes, big_number}
use Rattle.rows.specs.declared.limits.TheConstants.{DATAGRAM_MAX}
use Rattle.rows.specs.Spelling.{AreBytes, entry_spelling}
use Rattle.rows.specs.Laws.{FoundAreSpelled, NumbersAreSpelled, NumbersAreBelow}
use Rattle.wire.specs.declared.datagram.Datagram.{Datagram}
use Rattle.wire.specs.declared.faults.WireFault.{WireFault}
use Rattle.wire.specs.declared.faults.WireFault.TheVariants.{Short, Magic, Version, Kind, Length, Body}
use Rattle.wire.specs.declared.datagram.Datagram.TheVariants.{Head}
use Rattle.wire.specs.Spelling.{datagram_of, frame_head, ask_body, head_head, in_turn, counts_spelling, want_body, piece_head}
use Rattle.wire.specs.Spelling.{spelling, HasDatagramSpelling, flag}
use Rattle.wire.specs.Reading.{reading, is_unknown, body_at, frame_at, ask_at, counts_at, head_in, head_at, want_at, piece_at, pull_at}
use Rattle.wire.proofs.Bases.{is-based}
use Rattle.wire.proofs.Passing.{passed}
use Rattle.wire.proofs.Bodies.{frame_of, frame_at-only, ask_of, ask_at-only, head_at-only, want_of, want_at-only}
use Rattle.wire.proofs.Bodies.{piece_of, piece_at-only, pull_of, pull_at-only}
use Rattle.wire.proofs.Counting.{AreBytes-drop, counts_at-below, counts_at-spelled, length-counts_at}

-- a byte at an offset, and what stands behind it
cut_1 : (k : ℕ) (bytes : List ℕ) → k + 1 ≤ length bytes → get_or bytes k 0 ∷ drop (k + 1) bytes ≡ drop k bytes
cut_1 k bytes long = sym (drop_more bytes k 0 (omega arith))

-- a body that is the rest of what is found in it
record IsSpelledBody (kind : ℕ) (body : List ℕ) (found : Datagram) : Type 0 where
  spelled : HasDatagramSpelling found
  whole : datagram_of kind body ≡ spelling found

flag_is : (n : ℕ) → n ≤ 1 → flag (eqb n 1) ≡ n
flag_is zero h = refl
flag_is (suc zero) h = refl
flag_is (suc (suc n)) h = absurd (omega arith)

-- ---- the six bytes in front

ok_or_ok : (o : Option Datagram) (y : Datagram) → ok_or o Body ≡ Ok y → o ≡ Some y
ok_or_ok None y e = absurd cc
ok_or_ok (Some x) y e = cc

known_kind : (n : ℕ) → is_unknown (suc (suc (suc (suc (suc (suc (suc n))))))) ≡ false → ⊥
known_kind n known = grind (arith, nat_tests)

-- what the tests of the front let through
record IsFront (bytes : List ℕ) : Type 0 where
  long : 6 ≤ length bytes
  magic : big_number 2 bytes ≡ 0x4244
  version : get_or bytes 2 0 ≡ 3
  known : is_unknown (get_or bytes 3 0) ≡ false
  total : big_number 2 (drop 4 bytes) ≡ length bytes
  few : length bytes ≤ DATAGRAM_MAX

reading-only : (bytes : List ℕ) (found : Datagram) → reading bytes ≡ Ok found → IsFront bytes
    × (body_at (get_or bytes 3 0) (drop 6 bytes) ≡ Some found)
reading-only bytes found e =
    let kind = get_or bytes 3 0 in
    let total = not (eqb (big_number 2 (drop 4 bytes)) (length bytes)) || ltb DATAGRAM_MAX (length bytes) in
    let r5 = ok_or (body_at kind (drop 6 bytes)) Body in
    let r4 = cond total (Err Length) r5 in
    let r3 = cond (is_unknown kind) (Err Kind) r4 in
    let r2 = cond (not (eqb (get_or bytes 2 0) 3)) (Err Version) r3 in
    let r1 = cond (not (eqb (big_number 2 bytes) 0x4244)) (Err Magic) r2 in
    let p0 = passed (ltb (length bytes) 6) Short r1 found e in
    let p1 = passed (not (eqb (big_number 2 bytes) 0x4244)) Magic r2 found p0.1 in
    let p2 = passed (not (eqb (get_or bytes 2 0) 3)) Version r3 found p1.1 in
    let p3 = passed (is_unknown kind) Kind r4 found p2.1 in
    let p4 = passed total Length r5 found p3.1 in
    let sizes = or_parts _ _ p4.0 in (
      record {
        long = ltb-false _ _ p0.0;
        magic = eqb-true _ _ (not-false _ p1.0);
        version = eqb-true _ _ (not-false _ p2.0);
        known = p3.0;
        total = eqb-true _ _ (not-false _ sizes.0);
        few = ltb-false _ _ sizes.1;
      },
      ok_or_ok (body_at kind (drop 6 bytes)) found p4.1,
    )

-- ---- what is read is spelled so

module _ (cut : NumbersAreSpelled) (below : NumbersAreBelow) where
  frame_at-spelled : (law : FoundAreSpelled) (body : List ℕ) (found : Datagram) → AreBytes body → 6 + length body ≤ DATAGRAM_MAX
      → frame_at body ≡ Some found → IsSpelledBody 1 body found
  frame_at-spelled law body found fits few e =
      let only = frame_at-only body found e in
      let tested = only.0 in
      let long = tested.long in
      let entries = only.1.0 in
      let count = big_number 2 (drop 18 body) in
      let commit = big_number 8 (drop 9 body) in
      let seq = big_number 8 (drop 1 body) in
      let last = eqb (get_or body 17 0) 1 in
      let worker = get_or body 0 0 in
      let read = law count (drop 20 body) entries (AreBytes-drop 20 body fits) only.1.1 in
      let as_many = read.0 in
      let joined = flat_map entry_spelling entries in
      let at_18 : big_bytes 2 (length entries) ++ joined ≡ drop 18 body =
      ap (λ (n : ℕ). big_bytes 2 n ++ joined) as_many ∙ ap (λ (t : List ℕ). big_bytes 2 count ++ t) (sym read.2)
      ∙ cut 2 18 body (omega arith) fits in
      let at_17 : flag last ∷ drop 18 body ≡ drop 17 body =
      ap (λ (n : ℕ). n ∷ drop 18 body) (flag_is (get_or body 17 0) tested.flag) ∙ cut_1 17 body (omega arith) in
      let at_9 : big_bytes 8 commit ++ drop 17 body ≡ drop 9 body = cut 8 9 body (omega arith) fits in
      let at_1 : big_bytes 8 seq ++ drop 9 body ≡ drop 1 body = cut 8 1 body (omega arith) fits in
      let at_0 : worker ∷ drop 1 body ≡ body = cut_1 0 body (omega arith) in
      let parts : frame_head worker seq commit last (length entries) ++ joined ≡ body =
      ap (λ (t : List ℕ). worker ∷ (big_bytes 8 seq ++ (big_bytes 8 commit ++ (flag last ∷ t)))) at_18
      ∙ ap (λ (t : List ℕ). worker ∷ (big_bytes 8 seq ++ (big_bytes 8 commit ++ t))) at_17
      ∙ ap (λ (t : List ℕ). worker ∷ (big_bytes 8 seq ++ t)) at_9 ∙ ap (λ (t : List ℕ). worker ∷ t) at_1 ∙ at_0 in
      let size = ap length parts in
      let made : IsSpelledBody 1 body (frame_of body entries) = record {
        spelled =
            record {
              worker_below = tested.worker;
              seq_below = below 8 1 body fits;
              commit_numbered = tested.numbered;
              commit_below = below 8 9 body fits;
              some = omega (arith, as_many, tested.some);
              spelled = read.1;
              few = omega arith;
            };
        whole = ap (datagram_of 1) (sym parts);
      } in
      subst (IsSpelledBody 1 body) (sym only.1.2) made

  -- a replica and two numbers: the body of an Ask, and of a Pull
  ask_parts : (body : List ℕ) → AreBytes body → length body ≡ 17
      → ask_body (get_or body 0 0) (big_number 8 (drop 1 body)) (big_number 8 (drop 9 body)) ≡ body
  ask_parts body fits long =
      let replica = get_or body 0 0 in
      let boot = big_number 8 (drop 1 body) in
      let request = big_number 8 (drop 9 body) in
      let none : drop 17 body ≡ [] = nil_from_length (drop 17 body) (omega (arith, length-drop 17 body)) in
      let at_9 : big_bytes 8 request ++ [] ≡ drop 9 body =
      ap (λ (t : List ℕ). big_bytes 8 request ++ t) (sym none) ∙ cut 8 9 body (omega arith) fits in
      let at_1 : big_bytes 8 boot ++ drop 9 body ≡ drop 1 body = cut 8 1 body (omega arith) fits in
      let at_0 : replica ∷ drop 1 body ≡ body = cut_1 0 body (omega arith) in
      ap (λ (t : List ℕ). replica ∷ (big_bytes 8 boot ++ t)) at_9 ∙ ap (λ (t : List ℕ). replica ∷ t) at_1 ∙ at_0

  ask_at-spelled : (body : List ℕ) (found : Datagram) → AreBytes body → ask_at body ≡ Some found → IsSpelledBody 2 body found
  ask_at-spelled body found fits e =
      let only = ask_at-only body found e in
      let tested = only.0 in
      let made : IsSpelledBody 2 body (ask_of body) = record {
        spelled =
            record { replica_below = tested.replica; boot_below = below 8 1 body fits; request_below = below 8 9 body fits };
        whole = ap (datagram_of 2) (sym (ask_parts body fits tested.whole));
      } in
      subst (IsSpelledBody 2 body) (sym only.1) made

  head_at-spelled : (body : List ℕ) (found : Datagram) → AreBytes body → head_at body ≡ Some found → IsSpelledBody 3 body found
  head_at-spelled body found fits e =
      let only = head_at-only body found e in
      let tested = only.0 in
      let long = tested.whole in
      let head = head_in body in
      let workers = get_or body 41 0 in
      let is_based = is-based head tested.based in
      let as_many = length-counts_at workers (drop 50 body) in
      let behind : drop 8 (drop 42 body) ≡ drop 50 body = drop-drop 8 42 body in
      let counts : counts_spelling head ≡ drop 42 body =
      ap (λ (t : List ℕ). flat_map (big_bytes 8) (in_turn head.lows (counts_at workers t))) (sym behind)
      ∙ counts_at-spelled cut below workers (drop 42 body) (AreBytes-drop 42 body fits) (omega (arith, length-drop 42 body)) in
      let at_41 : length head.counts ∷ counts_spelling head ≡ drop 41 body =
      ap (λ (n : ℕ). n ∷ counts_spelling head) as_many ∙ ap (λ (t : List ℕ). workers ∷ t) counts ∙ cut_1 41 body (omega arith) in
      let at_33 : big_bytes 8 head.pieces ++ drop 41 body ≡ drop 33 body = cut 8 33 body (omega arith) fits in
      let at_25 : big_bytes 8 head.base ++ drop 33 body ≡ drop 25 body = cut 8 25 body (omega arith) fits in
      let at_17 : big_bytes 8 head.version ++ drop 25 body ≡ drop 17 body = cut 8 17 body (omega arith) fits in
      let at_9 : big_bytes 8 head.request ++ drop 17 body ≡ drop 9 body = cut 8 9 body (omega arith) fits in
      let at_1 : big_bytes 8 head.boot ++ drop 9 body ≡ drop 1 body = cut 8 1 body (omega arith) fits in
      let at_0 : head.replica ∷ drop 1 body ≡ body = cut_1 0 body (omega arith) in
      let to_17 : List ℕ → List ℕ = λ t. head.replica ∷ (big_bytes 8 head.boot ++ (big_bytes 8 head.request ++ t)) in
      let parts : head_head head ++ counts_spelling head ≡ body =
      ap (λ (t : List ℕ). to_17 (big_bytes 8 head.version ++ (big_bytes 8 head.base ++ (big_bytes 8 head.pieces ++ t)))) at_41
      ∙ ap (λ (t : List ℕ). to_17 (big_bytes 8 head.version ++ (big_bytes 8 head.base ++ t))) at_33
      ∙ ap (λ (t : List ℕ). to_17 (big_bytes 8 head.version ++ t)) at_25 ∙ ap to_17 at_17
      ∙ ap (λ (t : List ℕ). head.replica ∷ (big_bytes 8 head.boot ++ t)) at_9 ∙ ap (λ (t : List ℕ). head.replica ∷ t) at_1 ∙ at_0 in
      let made : IsSpelledBody 3 body (Head head) = record {
        spelled = (
          record { replica_below = tested.replica; boot_below = below 8 1 body fits; request_below = below 8 9 body fits },
          record {
            version_below = below 8 17 body fits;
            pieces_below = below 8 33 body fits;
            counted = record {
              some = omega (arith, as_many, tested.some);
              few = omega (arith, as_many, tested.few);
              below = counts_at-below cut below workers (drop 50 body) (AreBytes-drop 50 body fits);
            };
            base_within = is_based.base_within;
            lows_within = is_based.lows_within;
            none = is_based.none;
            opening = is_based.opening;
          },
        );
        whole = ap (datagram_of 3) (sym parts);
      } in
      subst (IsSpelledBody 3 body) (sym only.1) made

  want_at-spelled : (body : List ℕ) (found : Datagram) → AreBytes body → want_at body ≡ Some found → IsSpelledBody 4 body found
  want_at-spelled body found fits e =
      let only = want_at-only body found e in
      let tested = only.0 in
      let long = tested.whole in
      let replica = get_or body 0 0 in
      let worker = get_or body 1 0 in
      let from = big_number 8 (drop 2 body) in
      let none : drop 10 body ≡ [] = nil_from_length (drop 10 body) (omega (arith, length-drop 10 body)) in
      let at_2 : big_bytes 8 from ++ [] ≡ drop 2 body =
      ap (λ (t : List ℕ). big_bytes 8 from ++ t) (sym none) ∙ cut 8 2 body (omega arith) fits in
      let at_1 : worker ∷ drop 2 body ≡ drop 1 body = cut_1 1 body (omega arith) in
      let at_0 : replica ∷ drop 1 body ≡ body = cut_1 0 body (omega arith) in
      let parts : want_body replica worker from ≡ body =
      ap (λ (t : List ℕ). replica ∷ worker ∷ t) at_2 ∙ ap (λ (t : List ℕ). replica ∷ t) at_1 ∙ at_0 in
      let made : IsSpelledBody 4 body (want_of body) = record {
        spelled = (tested.replica, tested.worker, below 8 2 body fits);
        whole = ap (datagram_of 4) (sym parts);
      } in
      subst (IsSpelledBody 4 body) (sym only.1) made

  piece_at-spelled : (law : FoundAreSpelled) (body : List ℕ) (found : Datagram) → AreBytes body → 6 + length body ≤ DATAGRAM_MAX
      → piece_at body ≡ Some found → IsSpelledBody 5 body found
  piece_at-spelled law body found fits few e =
      let only = piece_at-only body found e in
      let tested = only.0 in
      let long = tested.long in
      let entries = only.1.0 in
      let count = big_number 2 (drop 17 body) in
      let number = big_number 8 (drop 8 body) in
      let base = big_number 8 body in
      let last = eqb (get_or body 16 0) 1 in
      let read = law count (drop 19 body) entries (AreBytes-drop 19 body fits) only.1.1 in
      let as_many = read.0 in
      let joined = flat_map entry_spelling entries in
      let at_17 : big_bytes 2 (length entries) ++ joined ≡ drop 17 body =
      ap (λ (n : ℕ). big_bytes 2 n ++ joined) as_many ∙ ap (λ (t : List ℕ). big_bytes 2 count ++ t) (sym read.2)
      ∙ cut 2 17 body (omega arith) fits in
      let at_16 : flag last ∷ drop 17 body ≡ drop 16 body =
      ap (λ (n : ℕ). n ∷ drop 17 body) (flag_is (get_or body 16 0) tested.flag) ∙ cut_1 16 body (omega arith) in
      let at_8 : big_bytes 8 number ++ drop 16 body ≡ drop 8 body = cut 8 8 body (omega arith) fits in
      let at_0 : big_bytes 8 base ++ drop 8 body ≡ body = cut 8 0 body (omega arith) fits in
      let parts : piece_head base number last (length entries) ++ joined ≡ body =
      ap (λ (t : List ℕ). big_bytes 8 base ++ (big_bytes 8 number ++ (flag last ∷ t))) at_17
      ∙ ap (λ (t : List ℕ). big_bytes 8 base ++ (big_bytes 8 number ++ t)) at_16
      ∙ ap (λ (t : List ℕ). big_bytes 8 base ++ t) at_8 ∙ at_0 in
      let size = ap length parts in
      let made : IsSpelledBody 5 body (piece_of body entries) = record {
        spelled =
            record {
              based = tested.based;
              base_below = below 8 0 body fits;
              number_below = below 8 8 body fits;
              spelled = read.1;
              few = omega arith;
              empty = λ none. let empty = tested.empty (sym as_many ∙ none) in (empty.0, eq-eqb (get_or body 16 0) 1 empty.1);
            };
        whole = ap (datagram_of 5) (sym parts);
      } in
      subst (IsSpelledBody 5 body) (sym only.1.2) made

  pull_at-spelled : (body : List ℕ) (found : Datagram) → AreBytes body → pull_at body ≡ Some found → IsSpelledBody 6 body found
  pull_at-spelled body found fits e =
      let only = pull_at-only body found e in
      let ask = ask_parts body fits only.0.whole in
      let made : IsSpelledBody 6 body (pull_of body) = record {
        spelled = (only.0.replica, below 8 1 body fits, below 8 9 body fits);
        whole = ap (datagram_of 6) (sym ask);
      } in
      subst (IsSpelledBody 6 body) (sym only.1) made

  body_at-spelled : (law : FoundAreSpelled) (kind : ℕ) (body : List ℕ) (found : Datagram) → AreBytes body → 6 + length body ≤ DATAGRAM_MAX
      → is_unknown kind ≡ false → body_at kind body ≡ Some found → IsSpelledBody kind body found
  body_at-spelled law zero body found fits few known e = absurd cc
  body_at-spelled law (suc zero) body found fits few known e = frame_at-spelled law body found fits few e
  body_at-spelled law (suc (suc zero)) body found fits few known e = ask_at-spelled body found fits e
  body_at-spelled law (suc (suc (suc zero))) body found fits few known e = head_at-spelled body found fits e
  body_at-spelled law (suc (suc (suc (suc zero)))) body found fits few known e = want_at-spelled body found fits e
  body_at-spelled law (suc (suc (suc (suc (suc zero))))) body found fits few known e = piece_at-spelled law body found fits few e
  body_at-spelled law (suc (suc (suc (suc (suc (suc zero)))))) body found fits few known e = pull_at-spelled body found fits e
  body_at-spelled law (suc (suc (suc (suc (suc (suc (suc kind))))))) body found fits few known e = absurd (known_kind kind known)

  front_parts : (bytes : List ℕ) → AreBytes bytes → IsFront bytes → bytes ≡ datagram_of (get_or bytes 3 0) (drop 6 bytes)
  front_parts bytes fits front =
      let long = front.long in
      let kind = get_or bytes 3 0 in
      let body = drop 6 bytes in
      let size : big_number 2 (drop 4 bytes) ≡ 6 + length body = omega (arith, front.total, length-drop 6 bytes) in
      let at_4 : big_bytes 2 (6 + length body) ++ body ≡ drop 4 bytes =
      ap (λ (n : ℕ). big_bytes 2 n ++ body) (sym size) ∙ cut 2 4 bytes (omega arith) fits in
      let at_3 : kind ∷ drop 4 bytes ≡ drop 3 bytes = cut_1 3 bytes (omega arith) in
      let at_2 : 3 ∷ drop 3 bytes ≡ drop 2 bytes = ap (λ (n : ℕ). n ∷ drop 3 bytes) (sym front.version) ∙ cut_1 2 bytes (omega arith) in
      let at_0 : big_bytes 2 0x4244 ++ drop 2 bytes ≡ bytes =
      ap (λ (n : ℕ). big_bytes 2 n ++ drop 2 bytes) (sym front.magic) ∙ cut 2 0 bytes (omega arith) fits in
      sym (ap (λ (t : List ℕ). 0x42 ∷ 0x44 ∷ 3 ∷ kind ∷ t) at_4 ∙ ap (λ (t : List ℕ). 0x42 ∷ 0x44 ∷ 3 ∷ t) at_3
      ∙ ap (λ (t : List ℕ). 0x42 ∷ 0x44 ∷ t) at_2 ∙ at_0)

  pub reading-spelled : (law : FoundAreSpelled) (bytes : List ℕ) (found : Datagram) → AreBytes bytes → reading bytes ≡ Ok found
      → HasDatagramSpelling found × (bytes ≡ spelling found)
  reading-spelled law bytes found fits e =
      let only = reading-only bytes found e in
      let front = only.0 in
      let kind = get_or bytes 3 0 in
      let body =
      body_at-spelled law kind (drop 6 bytes) found (AreBytes-drop 6 bytes fits)
      (omega (arith, front.few, front.long, length-drop 6 bytes)) front.known only.1 in
      (body.spelled, front_parts bytes fits front ∙ body.whole)

  -- the same of what a reader returned
  pub is_found : (law : FoundAreSpelled) (bytes : List ℕ) (result : Result Datagram WireFault) → AreBytes bytes → result ≡ reading bytes
      → IfOk result (λ found. HasDatagramSpelling found × (bytes ≡ spelling found))
  is_found law bytes (Ok found) fits is = reading-spelled law bytes found fits (sym is)
  is_found law bytes (Err fault) fits is = tt

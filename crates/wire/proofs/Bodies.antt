-- What a body of each kind has to be to be read, and what it then reads as.
use Rattle.std.proofs.Common.{◌≡◌, ℕ, ◌+◌, ◌*◌, ◌<◌, ◌≤◌, Bool, true, false, cond, eqb, ltb, not, ◌||◌, List, length, get_or, drop}
use Rattle.std.proofs.Common.{Option, Some, None, refl, sym, ap, ◌∙◌, arith}
use Rattle.std.specs.Option.{option_map}
use Rattle.std.proofs.lemmas.Bool.{cond-false, le-ltb, ltb-false, not-false, not_from_true, true≢false}
use Rattle.std.proofs.lemmas.Bool.Decides.{nat_tests}
use Rattle.byteorder.specs.Endian.{big_number}
use Rattle.rows.specs.declared.entry.Entry.{Entry}
use Rattle.rows.specs.declared.limits.TheConstants.{WORKERS_MAX, REPLICAS_MAX}
use Rattle.wire.specs.declared.datagram.Datagram.{Datagram}
use Rattle.wire.specs.declared.datagram.Datagram.TheVariants.{Frame, Ask, Head, Want, Piece, Pull}
use Rattle.rows.specs.Reading.{entries_filling}
use Rattle.wire.specs.Reading.{frame_at, ask_at, head_in, has_base, head_at, want_at, may_count, piece_at, pull_at}
use Rattle.wire.proofs.Passing.{guarded}

-- ---- a Frame

pub record IsFrameAt (body : List ℕ) : Type 0 where
  pub long : 20 ≤ length body
  pub worker : get_or body 0 0 < WORKERS_MAX
  pub numbered : 0 < big_number 8 (drop 9 body)
  pub flag : get_or body 17 0 ≤ 1
  pub some : 0 < big_number 2 (drop 18 body)

abbrev pub frame_of : List ℕ → List Entry → Datagram
frame_of body entries = Frame (get_or body 0 0) (big_number 8 (drop 1 body)) (big_number 8 (drop 9 body)) (eqb (get_or body 17 0) 1) entries

abbrev frames_of : List ℕ → Option Datagram
frames_of body = option_map (λ entries. frame_of body entries) (entries_filling (big_number 2 (drop 18 body)) (drop 20 body))

abbrev refuses_frame : ℕ → ℕ → ℕ → ℕ → Bool
refuses_frame worker commit flag count = not (ltb worker WORKERS_MAX) || eqb commit 0 || ltb 1 flag || eqb count 0

takes_frame : (worker commit flag count : ℕ) → worker < WORKERS_MAX → 0 < commit → flag ≤ 1 → 0 < count
    → refuses_frame worker commit flag count ≡ false
takes_frame worker commit flag count below numbered short some = grind (arith, nat_tests)

takes_frame_only : (worker commit flag count : ℕ) → refuses_frame worker commit flag count ≡ false → (worker < WORKERS_MAX) × (0 < commit)
    × (flag ≤ 1) × (0 < count)
takes_frame_only worker commit flag count e =
    (grind (arith, nat_tests), grind (arith, nat_tests), grind (arith, nat_tests), grind (arith, nat_tests))

pub frame_at-is : (body : List ℕ) (entries : List Entry) → IsFrameAt body
    → entries_filling (big_number 2 (drop 18 body)) (drop 20 body) ≡ Some entries → frame_at body ≡ Some (frame_of body entries)
frame_at-is body entries h filled =
    let tested = refuses_frame (get_or body 0 0) (big_number 8 (drop 9 body)) (get_or body 17 0) (big_number 2 (drop 18 body)) in
    cond-false (ltb (length body) 20) None (cond tested None (frames_of body)) (le-ltb _ _ h.long)
    ∙ cond-false tested None (frames_of body) (takes_frame _ _ _ _ h.worker h.numbered h.flag h.some)
    ∙ ap (option_map (λ (entries : List Entry). frame_of body entries)) filled

mapped_frame : (body : List ℕ) (filled : Option (List Entry)) (found : Datagram)
    → option_map (λ entries. frame_of body entries) filled ≡ Some found → (entries : List Entry) × (filled ≡ Some entries)
    × (found ≡ frame_of body entries)
mapped_frame body None found e = absurd cc
mapped_frame body (Some entries) found e = (entries, refl, cc)

pub frame_at-only : (body : List ℕ) (found : Datagram) → frame_at body ≡ Some found
    → IsFrameAt body × ((entries : List Entry) × (entries_filling (big_number 2 (drop 18 body)) (drop 20 body) ≡ Some entries)
    × (found ≡ frame_of body entries))
frame_at-only body found e =
    let tested = refuses_frame (get_or body 0 0) (big_number 8 (drop 9 body)) (get_or body 17 0) (big_number 2 (drop 18 body)) in
    let long = guarded (ltb (length body) 20) (cond tested None (frames_of body)) found e in
    let rest = guarded tested (frames_of body) found long.1 in
    let facts = takes_frame_only (get_or body 0 0) (big_number 8 (drop 9 body)) (get_or body 17 0) (big_number 2 (drop 18 body)) rest.0 in (
      record { long = ltb-false _ _ long.0; worker = facts.0; numbered = facts.1; flag = facts.2; some = facts.3 },
      mapped_frame body (entries_filling (big_number 2 (drop 18 body)) (drop 20 body)) found rest.1,
    )

-- ---- an Ask

pub record IsAskAt (body : List ℕ) : Type 0 where
  pub whole : length body ≡ 17
  pub replica : get_or body 0 0 < REPLICAS_MAX

abbrev pub ask_of : List ℕ → Datagram
ask_of body = Ask (get_or body 0 0) (big_number 8 (drop 1 body)) (big_number 8 (drop 9 body))

abbrev refuses_ask : ℕ → ℕ → Bool
refuses_ask size replica = not (eqb size 17) || not (ltb replica REPLICAS_MAX)

takes_ask : (size replica : ℕ) → size ≡ 17 → replica < REPLICAS_MAX → refuses_ask size replica ≡ false
takes_ask size replica whole below = grind (arith, nat_tests)

takes_ask_only : (size replica : ℕ) → refuses_ask size replica ≡ false → (size ≡ 17) × (replica < REPLICAS_MAX)
takes_ask_only size replica e = (grind (arith, nat_tests), grind (arith, nat_tests))

pub ask_at-is : (body : List ℕ) → IsAskAt body → ask_at body ≡ Some (ask_of body)
ask_at-is body h = cond-false (refuses_ask (length body) (get_or body 0 0)) None (Some (ask_of body)) (takes_ask _ _ h.whole h.replica)

pub ask_at-only : (body : List ℕ) (found : Datagram) → ask_at body ≡ Some found → IsAskAt body × (found ≡ ask_of body)
ask_at-only body found e =
    let tested = guarded (refuses_ask (length body) (get_or body 0 0)) (Some (ask_of body)) found e in
    let facts = takes_ask_only (length body) (get_or body 0 0) tested.0 in
    (record { whole = facts.0; replica = facts.1 }, cc)

-- ---- a Head

pub record IsHeadAt (body : List ℕ) : Type 0 where
  pub long : 42 ≤ length body
  pub replica : get_or body 0 0 < REPLICAS_MAX
  pub some : 0 < get_or body 41 0
  pub few : get_or body 41 0 ≤ WORKERS_MAX
  pub whole : length body ≡ 42 + 16 * get_or body 41 0
  pub based : has_base (head_in body) ≡ true

abbrev pub refuses_head : ℕ → ℕ → ℕ → Bool
refuses_head replica workers size =
    not (ltb replica REPLICAS_MAX) || eqb workers 0 || ltb WORKERS_MAX workers || not (eqb size (42 + 16 * workers))

takes_head : (replica workers size : ℕ) → replica < REPLICAS_MAX → 0 < workers → workers ≤ WORKERS_MAX → size ≡ 42 + 16 * workers
    → refuses_head replica workers size ≡ false
takes_head replica workers size below some few whole = grind (arith, nat_tests)

takes_head_only : (replica workers size : ℕ) → refuses_head replica workers size ≡ false → (replica < REPLICAS_MAX) × (0 < workers)
    × (workers ≤ WORKERS_MAX) × (size ≡ 42 + 16 * workers)
takes_head_only replica workers size e =
    (grind (arith, nat_tests), grind (arith, nat_tests), grind (arith, nat_tests), grind (arith, nat_tests))

-- what is left after the tests of the length, the replica and the workers
abbrev based_head : List ℕ → Option Datagram
based_head body = cond (not (has_base (head_in body))) None (Some (Head (head_in body)))

pub head_at-is : (body : List ℕ) → IsHeadAt body → head_at body ≡ Some (Head (head_in body))
head_at-is body h =
    let refused = refuses_head (get_or body 0 0) (get_or body 41 0) (length body) in
    cond-false (ltb (length body) 42) None (cond refused None (based_head body)) (le-ltb _ _ h.long)
    ∙ cond-false refused None (based_head body) (takes_head _ _ _ h.replica h.some h.few h.whole)
    ∙ cond-false (not (has_base (head_in body))) None (Some (Head (head_in body))) (not_from_true _ h.based)

pub head_at-only : (body : List ℕ) (found : Datagram) → head_at body ≡ Some found → IsHeadAt body × (found ≡ Head (head_in body))
head_at-only body found e =
    let refused = refuses_head (get_or body 0 0) (get_or body 41 0) (length body) in
    let long = guarded (ltb (length body) 42) (cond refused None (based_head body)) found e in
    let rest = guarded refused (based_head body) found long.1 in
    let facts = takes_head_only (get_or body 0 0) (get_or body 41 0) (length body) rest.0 in
    let based = guarded (not (has_base (head_in body))) (Some (Head (head_in body))) found rest.1 in (
      record {
        long = ltb-false _ _ long.0;
        replica = facts.0;
        some = facts.1;
        few = facts.2;
        whole = facts.3;
        based = not-false _ based.0;
      },
      cc,
    )

-- what is refused by a test is no Head
pub refuses-replica : (replica workers size : ℕ) → REPLICAS_MAX ≤ replica → refuses_head replica workers size ≡ true
refuses-replica replica workers size above = grind (arith, nat_tests)

pub refuses-none : (replica workers size : ℕ) → workers ≡ 0 → refuses_head replica workers size ≡ true
refuses-none replica workers size none = grind (arith, nat_tests)

pub refuses-many : (replica workers size : ℕ) → WORKERS_MAX < workers → refuses_head replica workers size ≡ true
refuses-many replica workers size many = grind (arith, nat_tests)

pub refuses-size : (replica workers size : ℕ) → (size ≡ 42 + 16 * workers → ⊥) → refuses_head replica workers size ≡ true
refuses-size replica workers size other = grind (arith, nat_tests)

pub head_at-refused : (body : List ℕ) → refuses_head (get_or body 0 0) (get_or body 41 0) (length body) ≡ true → None ≡ head_at body
head_at-refused body refused = by (ltb (length body) 42)
  where
    by : (short : Bool) → None
        ≡ cond short None (cond (refuses_head (get_or body 0 0) (get_or body 41 0) (length body)) None (based_head body))
    by true = refl
    by false = ap (λ (b : Bool). cond b None (based_head body)) (sym refused)

pub head_at-unbased : (body : List ℕ) → has_base (head_in body) ≡ false → None ≡ head_at body
head_at-unbased body unbased =
    by (ltb (length body) 42) (refuses_head (get_or body 0 0) (get_or body 41 0) (length body))
  where
    by : (short refused : Bool) → None ≡ cond short None (cond refused None (based_head body))
    by true refused = refl
    by false true = refl
    by false false = ap (λ (b : Bool). cond (not b) None (Some (Head (head_in body)))) (sym unbased)

-- ---- a Want

pub record IsWantAt (body : List ℕ) : Type 0 where
  pub whole : length body ≡ 10
  pub replica : get_or body 0 0 < REPLICAS_MAX
  pub worker : get_or body 1 0 < WORKERS_MAX

abbrev pub want_of : List ℕ → Datagram
want_of body = Want (get_or body 0 0) (get_or body 1 0) (big_number 8 (drop 2 body))

abbrev refuses_want : ℕ → ℕ → ℕ → Bool
refuses_want size replica worker = not (eqb size 10) || not (ltb replica REPLICAS_MAX) || not (ltb worker WORKERS_MAX)

takes_want : (size replica worker : ℕ) → size ≡ 10 → replica < REPLICAS_MAX → worker < WORKERS_MAX
    → refuses_want size replica worker ≡ false
takes_want size replica worker whole below within = grind (arith, nat_tests)

takes_want_only : (size replica worker : ℕ) → refuses_want size replica worker ≡ false → (size ≡ 10) × (replica < REPLICAS_MAX)
    × (worker < WORKERS_MAX)
takes_want_only size replica worker e = (grind (arith, nat_tests), grind (arith, nat_tests), grind (arith, nat_tests))

pub want_at-is : (body : List ℕ) → IsWantAt body → want_at body ≡ Some (want_of body)
want_at-is body h =
    cond-false (refuses_want (length body) (get_or body 0 0) (get_or body 1 0)) None (Some (want_of body))
    (takes_want _ _ _ h.whole h.replica h.worker)

pub want_at-only : (body : List ℕ) (found : Datagram) → want_at body ≡ Some found → IsWantAt body × (found ≡ want_of body)
want_at-only body found e =
    let tested = guarded (refuses_want (length body) (get_or body 0 0) (get_or body 1 0)) (Some (want_of body)) found e in
    let facts = takes_want_only (length body) (get_or body 0 0) (get_or body 1 0) tested.0 in
    (record { whole = facts.0; replica = facts.1; worker = facts.2 }, cc)

-- ---- a Piece

pub record IsPieceAt (body : List ℕ) : Type 0 where
  pub long : 19 ≤ length body
  pub based : 0 < big_number 8 body
  pub flag : get_or body 16 0 ≤ 1
  pub empty : big_number 2 (drop 17 body) ≡ 0 → (big_number 8 (drop 8 body) ≡ 0) × (get_or body 16 0 ≡ 1)

abbrev pub piece_of : List ℕ → List Entry → Datagram
piece_of body entries = Piece (big_number 8 body) (big_number 8 (drop 8 body)) (eqb (get_or body 16 0) 1) entries

abbrev pieces_of : List ℕ → Option Datagram
pieces_of body = option_map (λ entries. piece_of body entries) (entries_filling (big_number 2 (drop 17 body)) (drop 19 body))

abbrev pub refuses_piece : ℕ → ℕ → ℕ → ℕ → Bool
refuses_piece base number flag count = eqb base 0 || ltb 1 flag || not (may_count number flag count)

takes_piece : (base number flag count : ℕ) → 0 < base → flag ≤ 1 → (count ≡ 0 → (number ≡ 0) × (flag ≡ 1))
    → refuses_piece base number flag count ≡ false
takes_piece base number flag count based short empty = grind (arith, nat_tests)

takes_piece_only : (base number flag count : ℕ) → refuses_piece base number flag count ≡ false → (0 < base) × (flag ≤ 1)
    × (count ≡ 0 → (number ≡ 0) × (flag ≡ 1))
takes_piece_only base number flag count e =
    (grind (arith, nat_tests), grind (arith, nat_tests), λ none. (grind (arith, nat_tests), grind (arith, nat_tests)))

-- what a count that it may have tells
pub counts-piece : (number flag count : ℕ) → may_count number flag count ≡ true → count ≡ 0 → (number ≡ 0) × (flag ≡ 1)
counts-piece number flag count may none = (grind (arith, nat_tests), grind (arith, nat_tests))

pub piece_at-is : (body : List ℕ) (entries : List Entry) → IsPieceAt body
    → entries_filling (big_number 2 (drop 17 body)) (drop 19 body) ≡ Some entries → piece_at body ≡ Some (piece_of body entries)
piece_at-is body entries h filled =
    let tested = refuses_piece (big_number 8 body) (big_number 8 (drop 8 body)) (get_or body 16 0) (big_number 2 (drop 17 body)) in
    cond-false (ltb (length body) 19) None (cond tested None (pieces_of body)) (le-ltb _ _ h.long)
    ∙ cond-false tested None (pieces_of body) (takes_piece _ _ _ _ h.based h.flag h.empty)
    ∙ ap (option_map (λ (entries : List Entry). piece_of body entries)) filled

mapped_piece : (body : List ℕ) (filled : Option (List Entry)) (found : Datagram)
    → option_map (λ entries. piece_of body entries) filled ≡ Some found → (entries : List Entry) × (filled ≡ Some entries)
    × (found ≡ piece_of body entries)
mapped_piece body None found e = absurd cc
mapped_piece body (Some entries) found e = (entries, refl, cc)

pub piece_at-only : (body : List ℕ) (found : Datagram) → piece_at body ≡ Some found
    → IsPieceAt body × ((entries : List Entry) × (entries_filling (big_number 2 (drop 17 body)) (drop 19 body) ≡ Some entries)
    × (found ≡ piece_of body entries))
piece_at-only body found e =
    let tested = refuses_piece (big_number 8 body) (big_number 8 (drop 8 body)) (get_or body 16 0) (big_number 2 (drop 17 body)) in
    let long = guarded (ltb (length body) 19) (cond tested None (pieces_of body)) found e in
    let rest = guarded tested (pieces_of body) found long.1 in
    let facts =
    takes_piece_only (big_number 8 body) (big_number 8 (drop 8 body)) (get_or body 16 0) (big_number 2 (drop 17 body)) rest.0 in (
      record { long = ltb-false _ _ long.0; based = facts.0; flag = facts.1; empty = facts.2 },
      mapped_piece body (entries_filling (big_number 2 (drop 17 body)) (drop 19 body)) found rest.1,
    )

-- what is refused by a test is no Piece
pub refuses-base : (base number flag count : ℕ) → base ≡ 0 → refuses_piece base number flag count ≡ true
refuses-base base number flag count none = grind (arith, nat_tests)

pub refuses-flag : (base number flag count : ℕ) → 1 < flag → refuses_piece base number flag count ≡ true
refuses-flag base number flag count above = grind (arith, nat_tests)

pub refuses-count : (base number flag count : ℕ) → may_count number flag count ≡ false → refuses_piece base number flag count ≡ true
refuses-count base number flag count may = by (eqb base 0) (ltb 1 flag) (may_count number flag count) may
  where
    by : (a b c : Bool) → c ≡ false → (a || b || not c) ≡ true
    by true b c e = refl
    by false true c e = refl
    by false false true e = absurd (true≢false e)
    by false false false e = refl

pub piece_at-refused : (body : List ℕ)
    → refuses_piece (big_number 8 body) (big_number 8 (drop 8 body)) (get_or body 16 0) (big_number 2 (drop 17 body)) ≡ true
    → None ≡ piece_at body
piece_at-refused body refused = by (ltb (length body) 19)
  where
    by : (short : Bool) → None ≡ cond short None
        (cond (refuses_piece (big_number 8 body) (big_number 8 (drop 8 body)) (get_or body 16 0) (big_number 2 (drop 17 body))) None
        (pieces_of body))
    by true = refl
    by false = ap (λ (b : Bool). cond b None (pieces_of body)) (sym refused)

pub piece_at-unfilled : (body : List ℕ) → entries_filling (big_number 2 (drop 17 body)) (drop 19 body) ≡ None → None ≡ piece_at body
piece_at-unfilled body unfilled =
    by (ltb (length body) 19)
    (refuses_piece (big_number 8 body) (big_number 8 (drop 8 body)) (get_or body 16 0) (big_number 2 (drop 17 body)))
  where
    by : (short refused : Bool) → None ≡ cond short None (cond refused None (pieces_of body))
    by true refused = refl
    by false true = refl
    by false false = ap (option_map (λ (entries : List Entry). piece_of body entries)) (sym unfilled)

-- ---- a Pull: its body is tested as that of an Ask

abbrev pub pull_of : List ℕ → Datagram
pull_of body = Pull (get_or body 0 0) (big_number 8 (drop 1 body)) (big_number 8 (drop 9 body))

pub pull_at-is : (body : List ℕ) → IsAskAt body → pull_at body ≡ Some (pull_of body)
pull_at-is body h = cond-false (refuses_ask (length body) (get_or body 0 0)) None (Some (pull_of body)) (takes_ask _ _ h.whole h.replica)

pub pull_at-only : (body : List ℕ) (found : Datagram) → pull_at body ≡ Some found → IsAskAt body × (found ≡ pull_of body)
pull_at-only body found e =
    let tested = guarded (refuses_ask (length body) (get_or body 0 0)) (Some (pull_of body)) found e in
    let facts = takes_ask_only (length body) (get_or body 0 0) tested.0 in
    (record { whole = facts.0; replica = facts.1 }, cc)

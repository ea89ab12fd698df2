-- Each step keeps the rule, and so do a new pass and two that are compared.
use Rattle.std.proofs.Common.{◌≡◌, ◌≢◌, ◌==◌, ◌⊎◌, ◌+◌, ◌<◌, if◌then◌else◌, ℕ, zero, suc, Bool, true, false, refl, sym, ap, subst, ◌∙◌}
use Rattle.std.proofs.Common.{inl, inr, ⊎_elim, arith, eq-eqb, ne_eqb}
use Rattle.std.proofs.Common.{List, [], ◌∷◌, ◌++◌, length, length-append, length-drop, drop, set, Some, slice_get}
use Rattle.std.specs.List.{AllByRecursion}
use Rattle.std.proofs.lemmas.List.{drop-append-le}
use mathlib.Core.Option.{some, some-injective, some-ne-none}
use lib.ListN.{get_elem?}
use Rattle.crossbeam_queue.specs.Fifo.{Pushes, Pops, Admits, Forks, Merges, Learns}
use Rattle.crossbeam_queue.proofs.Lists.{at_set, set_else}
use Rattle.queries.specs.declared.plan.Plan.{Plan}
use Rattle.queue.specs.declared.moves.Moves.{Moves}
use Rattle.queue.specs.declared.moves.Queued.{Queued}
use Rattle.queue.specs.Apart.{ShareNoPosition}
use Rattle.queue.specs.Inner.Seats.{AreApartAt, without_more, without_first}
use Rattle.queue.specs.Laws.{StandsAt}
use Rattle.queue.specs.Rule.{Moment, IsMoment, IsInOrder, AreMovesOfMoment, Puts, Takes, first_of, no_moves, moves_until, after_put}
use Rattle.queue.specs.Rule.{after_take, queued}
use Rattle.queue.proofs.Listed.{put_listed, taken_once}
use Rattle.queue.proofs.Owned.{put_own, put_other, take_own, take_other}

-- ---- lists

at_end : (seats : List (List Moves)) (last held : List Moves) (seat : ℕ) → get_elem? (seats ++ last ∷ []) seat ≡ some held
    → (get_elem? seats seat ≡ some held) ⊎ ((seat ≡ length seats) × (last ≡ held))
at_end [] last held zero e = inr (refl, some-injective last held e)
at_end [] last held (suc seat) e = absurd (some-ne-none held (sym e))
at_end (first ∷ seats) last held zero e = inl e
at_end (first ∷ seats) last held (suc seat) e =
    ⊎_elim (λ t. inl t) (λ (t : (seat ≡ length seats) × (last ≡ held)). inr (ap suc t.0, t.1)) (at_end seats last held seat e)

drop_next : (n : ℕ) (plans : List Plan) (plan : Plan) (rest : List Plan) → drop n plans ≡ plan ∷ rest → drop (suc n) plans ≡ rest
drop_next zero [] plan rest e = absurd (cc e)
drop_next zero (first ∷ plans) plan rest e = cc e
drop_next (suc n) [] plan rest e = absurd (cc e)
drop_next (suc n) (first ∷ plans) plan rest e = drop_next n plans plan rest e

-- what is held alone is at place 0
alone : (only : Moves) (place : ℕ) (moves : Moves) → get_elem? (only ∷ []) place ≡ some moves → (place ≡ 0) × (only ≡ moves)
alone only zero moves e = (refl, some-injective only moves e)
alone only (suc place) moves e = absurd (some-ne-none moves (sym e))

in_either : (front back : List Moves) (place : ℕ) (moves : Moves) → get_elem? (front ++ back) place ≡ some moves
    → (get_elem? front place ≡ some moves) ⊎ ((rest : ℕ) × (place ≡ length front + rest) × (get_elem? back rest ≡ some moves))
in_either [] back place moves e = inr (place, omega arith, e)
in_either (first ∷ front) back zero moves e = inl e
in_either (first ∷ front) back (suc place) moves e =
    ⊎_elim
    (λ t. inl t)
    (λ (t : (rest : ℕ) × (place ≡ length front + rest) × (get_elem? back rest ≡ some moves)).
    let is : place ≡ length front + t.0 = t.1 in inr (t.0, omega arith, t.2))
    (in_either front back place moves e)

first_alone : (held : List Moves) (place : ℕ) (moves : Moves) → get_elem? (without_more held) place ≡ some moves
    → (place ≡ 0) × (get_elem? held 0 ≡ some moves)
first_alone [] place moves e = absurd (some-ne-none moves (sym e))
first_alone (first ∷ more) zero moves e = (refl, e)
first_alone (first ∷ more) (suc place) moves e = absurd (some-ne-none moves (sym e))

behind_first : (held : List Moves) (place : ℕ) (moves : Moves) → get_elem? (without_first held) place ≡ some moves
    → get_elem? held (suc place) ≡ some moves
behind_first [] place moves e = absurd (some-ne-none moves (sym e))
behind_first (first ∷ more) place moves e = e

picked : {A : Type 0} (is : Bool) (one other : A) → is ≡ true → (if is then one else other) ≡ one
picked is one other e = ap (λ (b : Bool). if b then one else other) e

left_out : {A : Type 0} (is : Bool) (one other : A) → is ≡ false → (if is then one else other) ≡ other
left_out is one other e = ap (λ (b : Bool). if b then one else other) e

-- ---- a step of one pass

-- Where one pass makes a move and all others stay, the rule holds at the moment after it.
moved : (before items : List Plan) (seats : List (List Moves)) (seat pass : ℕ) (new : Moves) (h : IsInOrder before seats) (after : Moment)
    → pass < h.count → h.seat_of pass ≡ seat → h.place_of pass ≡ 0
    → new ≡ moves_until pass after → ((other : ℕ) → other ≢ pass → moves_until other after ≡ moves_until other h.moment)
    → IsMoment after → items ≡ drop (length after.takers) after.plans
    → IsInOrder items (set seats seat (new ∷ []))
moved before items seats seat pass new h after small here first is stay sound holds = record {
  moment = after;
  sound = sound;
  holds = holds;
  count = h.count;
  seat_of = h.seat_of;
  place_of = h.place_of;
  each = λ at place held moves there which. ⊎_elim
      (λ (t : (at ≡ seat) × (new ∷ [] ≡ held)).
      let only = alone new place moves (subst (λ (l : List Moves). get_elem? l place ≡ some moves) (sym t.1) which) in
      (pass, small, here ∙ sym t.0, first ∙ sym only.0, sym only.1 ∙ is))
      (λ (t : (at ≢ seat) × (get_elem? seats at ≡ some held)).
      let found = h.each at place held moves t.1 which in
      let apart : found.0 ≢ pass = λ e. t.0 (sym found.2 ∙ ap h.seat_of e ∙ here) in
      (found.0, found.1, found.2, found.3, found.4 ∙ sym (stay found.0 apart)))
      (at_set seats seat at (new ∷ []) held there);
  no_other = λ other far.
      let apart : other ≢ pass = λ e. omega (arith, small) in stay other apart ∙ h.no_other other far;
}

abbrev put_more : ℕ → Plan → Moves → Moves
put_more position plan moves = record { put = moves.put ++ queued position plan ∷ []; taken = moves.taken }

abbrev take_more : ℕ → Plan → Moves → Moves
take_more position plan moves = record { put = moves.put; taken = moves.taken ++ queued position plan ∷ [] }

pub pushes : (n seat : ℕ) (held : List Moves) (plan : Plan) → held ≡ first_of held ∷ []
    → Pushes IsInOrder n seat held plan (λ new. (new ≡ first_of new ∷ []) × Puts (first_of held) plan (first_of new))
pushes n seat held plan one items seats room h at =
    let m : Moment = h.moment in
    let s : IsMoment m = h.sound in
    let old : Moves = first_of held in
    let found = h.each seat 0 held old at (ap (λ (l : List Moves). get_elem? l 0) one) in
    let pass : ℕ = found.0 in
    let is : old ≡ moves_until pass m = found.4 in
    let new : Moves = put_more (length m.plans) plan old in
    let made : new ≡ moves_until pass (after_put pass plan m) = ap (put_more (length m.plans) plan) is ∙ sym (put_own pass plan m s) in
    let sound : IsMoment (after_put pass plan m) = record {
      each_put = omega (arith, length-append m.putters (pass ∷ []), length-append m.plans (plan ∷ []), s.each_put);
      first_taken = omega (arith, length-append m.plans (plan ∷ []), s.first_taken);
    } in
    let holds : items ++ plan ∷ [] ≡ drop (length m.takers) (m.plans ++ plan ∷ []) =
    ap (λ l. l ++ plan ∷ []) h.holds ∙ sym (drop-append-le (length m.takers) m.plans (plan ∷ []) s.first_taken) in (
      new ∷ [],
      moved items (items ++ plan ∷ []) seats seat pass new h (after_put pass plan m) found.1 found.2 found.3 made
          (λ other apart. put_other other pass plan m s apart) sound holds,
      (
        refl,
        record {
          pass = pass;
          moment = m;
          before = record { sound = s; all = is };
          after = record { sound = sound; all = made };
          one_more = refl;
          same = refl;
        },
      ),
    )

pub pops : (seat : ℕ) (held : List Moves) → held ≡ first_of held ∷ []
    → Pops IsInOrder seat held (λ plan new. (new ≡ first_of new ∷ []) × Takes (first_of held) plan (first_of new))
pops seat held one plan items seats h at =
    let m : Moment = h.moment in
    let s : IsMoment m = h.sound in
    let old : Moves = first_of held in
    let found = h.each seat 0 held old at (ap (λ (l : List Moves). get_elem? l 0) one) in
    let pass : ℕ = found.0 in
    let is : old ≡ moves_until pass m = found.4 in
    let first : drop (length m.takers) m.plans ≡ plan ∷ items = sym h.holds in
    let new : Moves = take_more (length m.takers) plan old in
    let made : new ≡ moves_until pass (after_take pass m) =
    ap (take_more (length m.takers) plan) is ∙ sym (take_own pass plan items m first) in
    let long : length (m.takers ++ pass ∷ []) ≡ suc (length m.takers) = omega (arith, length-append m.takers (pass ∷ [])) in
    let sound : IsMoment (after_take pass m) = record {
      each_put = s.each_put;
      first_taken = omega (arith, long, ap length first, length-drop (length m.takers) m.plans);
    } in
    let holds : items ≡ drop (length (m.takers ++ pass ∷ [])) m.plans =
    sym (ap (λ (n : ℕ). drop n m.plans) long ∙ drop_next (length m.takers) m.plans plan items first) in (
      new ∷ [],
      moved (plan ∷ items) items seats seat pass new h (after_take pass m) found.1 found.2 found.3 made
          (λ other apart. take_other other pass plan items m first apart) sound holds,
      (
        refl,
        record {
          pass = pass;
          moment = m;
          before = record { sound = s; all = is };
          after = record { sound = sound; all = made };
          first = (items, first);
          one_more = refl;
          same = refl;
        },
      ),
    )

pub learns : (seat : ℕ) (held : List Moves) → held ≡ first_of held ∷ []
    → Learns IsInOrder seat held (λ items. AreMovesOfMoment (first_of held))
learns seat held one items seats h at =
    let found = h.each seat 0 held (first_of held) at (ap (λ (l : List Moves). get_elem? l 0) one) in
    (found.0, h.moment, record { sound = h.sound; all = found.4 })

-- ---- a new queue, and a new pass

none_yet : (seat place : ℕ) (held : List Moves) (moves : Moves) → get_elem? ((no_moves ∷ []) ∷ []) seat ≡ some held
    → get_elem? held place ≡ some moves → (seat ≡ 0) × (place ≡ 0) × (no_moves ≡ moves)
none_yet zero place held moves there which =
    let only = alone no_moves place moves (subst (λ (l : List Moves). get_elem? l place ≡ some moves)
    (sym (some-injective (no_moves ∷ []) held there)) which) in
    (refl, only.0, only.1)
none_yet (suc seat) place held moves there which = absurd (some-ne-none held (sym there))

pub begins : IsInOrder [] ((no_moves ∷ []) ∷ [])
begins = record {
  moment = record { plans = []; putters = []; takers = [] };
  sound = record { each_put = refl; first_taken = omega arith };
  holds = refl;
  count = 1;
  seat_of = λ pass. 0;
  place_of = λ pass. 0;
  each = λ seat place held moves there which.
      let at = none_yet seat place held moves there which in (0, omega arith, sym at.0, sym at.1, sym at.2);
  no_other = λ pass far. refl;
}

pub admits : Admits IsInOrder (no_moves ∷ [])
admits items seats h =
    let last : ℕ = length seats in
    let count : ℕ = h.count in
    record {
      moment = h.moment;
      sound = h.sound;
      holds = h.holds;
      count = suc count;
      seat_of = λ pass. if pass == count then last else h.seat_of pass;
      place_of = λ pass. if pass == count then 0 else h.place_of pass;
      each = λ seat place held moves there which. ⊎_elim
          (λ (t : get_elem? seats seat ≡ some held).
          let found = h.each seat place held moves t which in
          let other : (found.0 == count) ≡ false = ne_eqb found.0 count (λ e. omega (arith, found.1)) in (
            found.0,
            omega (arith, found.1),
            left_out (found.0 == count) last (h.seat_of found.0) other ∙ found.2,
            left_out (found.0 == count) 0 (h.place_of found.0) other ∙ found.3,
            found.4,
          ))
          (λ (t : (seat ≡ length seats) × (no_moves ∷ [] ≡ held)).
          let only = alone no_moves place moves (subst (λ (l : List Moves). get_elem? l place ≡ some moves) (sym t.1) which) in
          let own : (count == count) ≡ true = eq-eqb count count refl in (
            count,
            omega arith,
            picked (count == count) last (h.seat_of count) own ∙ sym t.0,
            picked (count == count) 0 (h.place_of count) own ∙ sym only.0,
            sym only.1 ∙ sym (h.no_other count (omega arith)),
          ))
          (at_end seats (no_moves ∷ []) held seat there);
      no_other = λ pass far. h.no_other pass (omega arith);
    }

-- ---- two passes at one seat

-- what is held at another seat comes behind what is held here
pub merges : (seat : ℕ) (mine : List Moves) (other : ℕ) (theirs : List Moves)
    → Merges IsInOrder seat mine other theirs (mine ++ theirs) []
merges seat mine other theirs items seats h at apart its =
    let both : List Moves = mine ++ theirs in
    let from : get_elem? seats other ≡ some theirs = sym (set_else seats seat other both apart) ∙ its in
    let seat_now : ℕ → ℕ = λ pass. if h.seat_of pass == other then seat else h.seat_of pass in
    let place_now : ℕ → ℕ = λ pass. if h.seat_of pass == other then length mine + h.place_of pass else h.place_of pass in
    let stays : (at place : ℕ) (moves : Moves) → at ≢ other
    → ((pass : ℕ) × (pass < h.count) × (h.seat_of pass ≡ at) × (h.place_of pass ≡ place) × (moves ≡ moves_until pass h.moment))
    → (pass : ℕ) × (pass < h.count) × (seat_now pass ≡ at) × (place_now pass ≡ place) × (moves ≡ moves_until pass h.moment) =
    λ at place moves far found.
    let no : (h.seat_of found.0 == other) ≡ false = ne_eqb (h.seat_of found.0) other (λ e. far (sym found.2 ∙ e)) in (
      found.0,
      found.1,
      left_out (h.seat_of found.0 == other) seat (h.seat_of found.0) no ∙ found.2,
      left_out (h.seat_of found.0 == other) (length mine + h.place_of found.0) (h.place_of found.0) no ∙ found.3,
      found.4,
    ) in
    record {
      moment = h.moment;
      sound = h.sound;
      holds = h.holds;
      count = h.count;
      seat_of = seat_now;
      place_of = place_now;
      each = λ k place held moves there which. ⊎_elim
          (λ (t : (k ≡ other) × ([] ≡ held)).
          absurd (some-ne-none moves (sym (subst (λ (l : List Moves). get_elem? l place ≡ some moves) (sym t.1) which))))
          (λ (t : (k ≢ other) × (get_elem? (set seats seat both) k ≡ some held)). ⊎_elim
          (λ (u : (k ≡ seat) × (both ≡ held)). ⊎_elim
          (λ (front : get_elem? mine place ≡ some moves).
          let found = stays seat place moves (λ e. apart (sym e)) (h.each seat place mine moves at front) in
          (found.0, found.1, found.2 ∙ sym u.0, found.3, found.4))
          (λ (back : (rest : ℕ) × (place ≡ length mine + rest) × (get_elem? theirs rest ≡ some moves)).
          let found = h.each other back.0 theirs moves from back.2 in
          let yes : (h.seat_of found.0 == other) ≡ true = eq-eqb (h.seat_of found.0) other found.2 in (
            found.0,
            found.1,
            picked (h.seat_of found.0 == other) seat (h.seat_of found.0) yes ∙ sym u.0,
            picked (h.seat_of found.0 == other) (length mine + h.place_of found.0) (h.place_of found.0) yes
                ∙ ap (λ (n : ℕ). length mine + n) found.3 ∙ sym back.1,
            found.4,
          ))
          (in_either mine theirs place moves (subst (λ (l : List Moves). get_elem? l place ≡ some moves) (sym u.1) which)))
          (λ (u : (k ≢ seat) × (get_elem? seats k ≡ some held)).
          stays k place moves t.0 (h.each k place held moves u.1 which))
          (at_set seats seat k both held t.1))
          (at_set (set seats seat both) other k [] held there);
      no_other = h.no_other;
    }

-- where a pass at a place of the seat that is split is then: the first stays, the others go to the new seat
abbrev split_seat : ℕ → ℕ → ℕ → ℕ
split_seat last seat zero = seat
split_seat last seat (suc place) = last

abbrev split_place : ℕ → ℕ
split_place zero = zero
split_place (suc place) = place

-- all but the first that is held at a seat goes to a new one
pub splits : (seat : ℕ) (held : List Moves) → Forks IsInOrder seat held (without_more held) (without_first held)
splits seat mine items seats h at =
    let left : List (List Moves) = set seats seat (without_more mine) in
    let last : ℕ = length left in
    let seat_now : ℕ → ℕ = λ pass. if h.seat_of pass == seat then split_seat last seat (h.place_of pass) else h.seat_of pass in
    let place_now : ℕ → ℕ = λ pass. if h.seat_of pass == seat then split_place (h.place_of pass) else h.place_of pass in
    let goes : (place : ℕ) (moves : Moves)
    → ((pass : ℕ) × (pass < h.count) × (h.seat_of pass ≡ seat) × (h.place_of pass ≡ place) × (moves ≡ moves_until pass h.moment))
    → (pass : ℕ) × (pass < h.count) × (seat_now pass ≡ split_seat last seat place) × (place_now pass ≡ split_place place)
    × (moves ≡ moves_until pass h.moment) =
    λ place moves found.
    let yes : (h.seat_of found.0 == seat) ≡ true = eq-eqb (h.seat_of found.0) seat found.2 in (
      found.0,
      found.1,
      picked (h.seat_of found.0 == seat) (split_seat last seat (h.place_of found.0)) (h.seat_of found.0) yes
          ∙ ap (split_seat last seat) found.3,
      picked (h.seat_of found.0 == seat) (split_place (h.place_of found.0)) (h.place_of found.0) yes ∙ ap split_place found.3,
      found.4,
    ) in
    record {
      moment = h.moment;
      sound = h.sound;
      holds = h.holds;
      count = h.count;
      seat_of = seat_now;
      place_of = place_now;
      each = λ k place held moves there which. ⊎_elim
          (λ (t : get_elem? left k ≡ some held). ⊎_elim
          (λ (u : (k ≡ seat) × (without_more mine ≡ held)).
          let front = first_alone mine place moves
          (subst (λ (l : List Moves). get_elem? l place ≡ some moves) (sym u.1) which) in
          let found = goes 0 moves (h.each seat 0 mine moves at front.1) in
          (found.0, found.1, found.2 ∙ sym u.0, found.3 ∙ sym front.0, found.4))
          (λ (u : (k ≢ seat) × (get_elem? seats k ≡ some held)).
          let found = h.each k place held moves u.1 which in
          let no : (h.seat_of found.0 == seat) ≡ false = ne_eqb (h.seat_of found.0) seat (λ e. u.0 (sym found.2 ∙ e)) in (
            found.0,
            found.1,
            left_out (h.seat_of found.0 == seat) (split_seat last seat (h.place_of found.0)) (h.seat_of found.0) no ∙ found.2,
            left_out (h.seat_of found.0 == seat) (split_place (h.place_of found.0)) (h.place_of found.0) no ∙ found.3,
            found.4,
          ))
          (at_set seats seat k (without_more mine) held t))
          (λ (t : (k ≡ length left) × (without_first mine ≡ held)).
          let back = behind_first mine place moves
          (subst (λ (l : List Moves). get_elem? l place ≡ some moves) (sym t.1) which) in
          let found = goes (suc place) moves (h.each seat (suc place) mine moves at back) in
          (found.0, found.1, found.2 ∙ sym t.0, found.3, found.4))
          (at_end left (without_first mine) held k there);
      no_other = h.no_other;
    }

-- what is owned by another pass is at other positions
apart_from : (pass other : ℕ) → pass ≢ other → (owners : List ℕ) (plans : List Plan) (mine : Queued) (theirs : List Queued)
    → StandsAt pass owners plans mine → AllByRecursion (StandsAt other owners plans) theirs
    → AllByRecursion (λ (one : Queued). ¬ (mine.position ≡ one.position)) theirs
apart_from pass other differ owners plans mine [] stands all = tt
apart_from pass other differ owners plans mine (one ∷ theirs) stands all = (
  (λ e. let same : Some pass ≡ Some other = sym stands.0 ∙ ap (slice_get owners) e ∙ all.0.0 in differ (cc same)),
  apart_from pass other differ owners plans mine theirs stands all.1,
)

share_none : (pass other : ℕ) → pass ≢ other → (owners : List ℕ) (plans : List Plan) (mine theirs : List Queued)
    → AllByRecursion (StandsAt pass owners plans) mine → AllByRecursion (StandsAt other owners plans) theirs → ShareNoPosition mine theirs
share_none pass other differ owners plans [] theirs all others = tt
share_none pass other differ owners plans (one ∷ mine) theirs all others = (
  apart_from pass other differ owners plans one theirs all.0 others,
  share_none pass other differ owners plans mine theirs all.1 others,
)

pub tells_apart : (seat : ℕ) (held : List Moves) → Learns IsInOrder seat held (λ items. AreApartAt held)
tells_apart seat [] items seats h at = tt
tells_apart seat (one ∷ []) items seats h at = tt
tells_apart seat (one ∷ other ∷ []) items seats h at =
    let m : Moment = h.moment in
    let mine = h.each seat 0 (one ∷ other ∷ []) one at refl in
    let theirs = h.each seat 1 (one ∷ other ∷ []) other at refl in
    let differ : mine.0 ≢ theirs.0 = λ e. omega (arith, mine.3, theirs.3, ap h.place_of e) in
    record {
      moment = m;
      first = mine.0;
      second = theirs.0;
      differ = differ;
      mine = record { sound = h.sound; all = mine.4 };
      theirs = record { sound = h.sound; all = theirs.4 };
      put =
          share_none mine.0 theirs.0 differ m.putters m.plans one.put other.put
          (subst (λ (l : Moves). AllByRecursion (StandsAt mine.0 m.putters m.plans) l.put) (sym mine.4) (put_listed mine.0 m))
          (subst (λ (l : Moves). AllByRecursion (StandsAt theirs.0 m.putters m.plans) l.put) (sym theirs.4) (put_listed theirs.0 m));
      taken =
          share_none mine.0 theirs.0 differ m.takers m.plans one.taken other.taken
          (subst (λ (l : Moves). AllByRecursion (StandsAt mine.0 m.takers m.plans) l.taken) (sym mine.4) (taken_once mine.0 m))
          (subst (λ (l : Moves). AllByRecursion (StandsAt theirs.0 m.takers m.plans) l.taken) (sym theirs.4) (taken_once theirs.0 m));
    }
tells_apart seat (one ∷ other ∷ more ∷ held) items seats h at = tt

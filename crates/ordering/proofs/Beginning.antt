-- A commit's frames, one after the other.
use Rattle.std.proofs.Common.{◌≡◌, ℕ, ◌+◌, ◌<◌, ◌≤◌, true, false, List, [], ◌∷◌, ◌++◌, length, refl, sym, ap, subst, ◌∙◌}
use Rattle.std.proofs.Common.{append-nil, length-append, arith, Result, Ok, Err, OnOk, is_ok}
use Rattle.std.specs.List.{flat_map, AllByRecursion}
use Rattle.std.proofs.lemmas.List.Concat.{flat_map-append}
use Rattle.rows.specs.declared.entry.Entry.{Entry}
use Rattle.rows.specs.Limits.{commit_entries_max}
use Rattle.update_log.specs.declared.frame.Frame.{Frame}
use Rattle.ordering.proofs.Elements.{all-append, all-back}
use Rattle.ordering.specs.Merging.{AreMarked, HoldCommit}
use Rattle.ordering.specs.Inner.Progress.{HoldNone, IsCommitBegun}
use Rattle.ordering.proofs.Marking.{marked-end, none-behind, past-unmarked}

-- the entries of frames
abbrev pub entries_in : List Frame → List Entry
entries_in frames = flat_map (λ frame. frame.entries) frames

-- frames that hold a commit are some
pub some-own : (number : ℕ) (entries : List Entry) (own : List Frame) → HoldCommit number entries own → 0 < length own
some-own number entries [] holds = absurd (omega (arith, ap length holds.joined, holds.some))
some-own number entries (frame ∷ own) holds = omega arith

pub begun-none : (number : ℕ) → IsCommitBegun number [] []
begun-none number = record { numbered = tt; unmarked = tt; joined = refl; few = omega arith }

-- the entries with those of one more frame
entries-more : (front : List Frame) (frame : Frame) (entries : List Entry) → entries_in front ≡ entries
    → entries_in (front ++ frame ∷ []) ≡ entries ++ frame.entries
entries-more front frame entries joined =
    flat_map-append (λ (f : Frame). f.entries) front (frame ∷ [])
    ∙ ap (λ (more : List Entry). entries_in front ++ more) (append-nil frame.entries)
    ∙ ap (λ (so_far : List Entry). so_far ++ frame.entries) joined

pub begun-more : (number : ℕ) (entries now : List Entry) (front : List Frame) (frame : Frame) → IsCommitBegun number entries front
    → frame.commit ≡ number → frame.last ≡ false → now ≡ entries ++ frame.entries
    → length entries + length frame.entries ≤ commit_entries_max → IsCommitBegun number now (front ++ frame ∷ [])
begun-more number entries now front frame begun numbered unmarked now_is few = record {
  numbered = all-append (λ (f : Frame). f.commit ≡ number) front (frame ∷ []) begun.numbered (numbered, tt);
  unmarked = all-append (λ (f : Frame). f.last ≡ false) front (frame ∷ []) begun.unmarked (unmarked, tt);
  joined = entries-more front frame entries begun.joined ∙ sym now_is;
  few = omega (arith, ap length now_is, length-append entries frame.entries);
}

-- the last frame comes
pub begun-end : (number : ℕ) (entries now : List Entry) (front : List Frame) (frame : Frame) → IsCommitBegun number entries front
    → frame.commit ≡ number → frame.last ≡ true → now ≡ entries ++ frame.entries
    → length entries + length frame.entries ≤ commit_entries_max → 0 < length now → HoldCommit number now (front ++ frame ∷ [])
begun-end number entries now front frame begun numbered last now_is few some = record {
  numbered = all-append (λ (f : Frame). f.commit ≡ number) front (frame ∷ []) begun.numbered (numbered, tt);
  marked = marked-end front frame begun.unmarked last;
  joined = entries-more front frame entries begun.joined ∙ sym now_is;
  some = some;
  few = omega (arith, ap length now_is, length-append entries frame.entries);
}

-- what frames that hold the commit have behind those that are not marked
pub record IsBehind (number : ℕ) (so_far : List Entry) (tail : List Frame) : Type 0 where
  pub entries : List Entry
  pub own : List Frame
  pub rest : List Frame
  pub some : 0 < length own
  pub numbered : AllByRecursion (λ frame. frame.commit ≡ number) own
  pub marked : AreMarked own
  pub joined : so_far ++ entries_in own ≡ entries
  pub some_entries : 0 < length entries
  pub few : length entries ≤ commit_entries_max
  pub whole : tail ≡ own ++ rest

behind : (number : ℕ) (so_far : List Entry) (front tail : List Frame) (entries : List Entry) (own rest : List Frame)
    → IsCommitBegun number so_far front → front ++ tail ≡ own ++ rest → HoldCommit number entries own → IsBehind number so_far tail
behind number so_far front tail entries own rest begun whole holds =
    let past = past-unmarked front tail own rest begun.unmarked holds.marked (some-own number entries own holds) whole in
    let more : List Frame = past.0 in
    let own_is : own ≡ front ++ more = past.1 in
    record {
      entries = entries;
      own = more;
      rest = rest;
      some = past.2;
      numbered =
          all-back (λ (f : Frame). f.commit ≡ number) front more
          (subst (AllByRecursion (λ (f : Frame). f.commit ≡ number)) own_is holds.numbered);
      marked = past.3;
      joined =
          ap (λ (es : List Entry). es ++ entries_in more) (sym begun.joined)
          ∙ sym (flat_map-append (λ (f : Frame). f.entries) front more)
          ∙ ap entries_in (sym own_is)
          ∙ holds.joined;
      some_entries = holds.some;
      few = holds.few;
      whole = past.4;
    }

-- no frames hold the commit where none is behind those so far
pub none-end : (number : ℕ) (so_far : List Entry) (front : List Frame) → IsCommitBegun number so_far front → HoldNone number front
none-end number so_far front begun entries own rest whole holds =
    no-tail (behind number so_far front [] entries own rest begun (append-nil front ∙ whole) holds)
  where
    no-tail : IsBehind number so_far [] → ⊥
    no-tail is = absurd (omega (arith, is.some, ap length is.whole, length-append is.own is.rest))

-- nor where the next frame is not of it, with its entries there are too many, or it is the last and there is no entry
next-of : (number : ℕ) (so_far : List Entry) (frame : Frame) (tail own rest : List Frame) → frame ∷ tail ≡ own ++ rest → 0 < length own
    → AllByRecursion (λ frame. frame.commit ≡ number) own → AreMarked own
    → (frame.commit ≡ number) × ((more : List Frame) × (entries_in own ≡ frame.entries ++ entries_in more)
    × (frame.last ≡ true → more ≡ []))
next-of number so_far frame tail [] rest whole some numbered marked = absurd (omega arith)
next-of number so_far frame tail (first ∷ own) rest whole some numbered marked =
    let same : frame ≡ first = cc in (
      ap (λ (f : Frame). f.commit) same ∙ numbered.0,
      (
        own,
        ap (λ (f : Frame). f.entries ++ entries_in own) (sym same),
        λ last. none-behind own (sym marked.0 ∙ ap (λ (f : Frame). f.last) (sym same) ∙ last),
      ),
    )

pub none-other : (number : ℕ) (so_far : List Entry) (front : List Frame) (frame : Frame) (tail : List Frame)
    → IsCommitBegun number so_far front
    → (frame.commit ≡ number → ⊥) → HoldNone number (front ++ frame ∷ tail)
none-other number so_far front frame tail begun other entries own rest whole holds =
    let is = behind number so_far front (frame ∷ tail) entries own rest begun whole holds in
    other (next-of number so_far frame tail is.own is.rest is.whole is.some is.numbered is.marked).0

pub none-many : (number : ℕ) (so_far : List Entry) (front : List Frame) (frame : Frame) (tail : List Frame)
    → IsCommitBegun number so_far front
    → commit_entries_max < length so_far + length frame.entries → HoldNone number (front ++ frame ∷ tail)
none-many number so_far front frame tail begun many entries own rest whole holds =
    let is = behind number so_far front (frame ∷ tail) entries own rest begun whole holds in
    let next = (next-of number so_far frame tail is.own is.rest is.whole is.some is.numbered is.marked).1 in
    absurd (omega (
      arith,
      is.few,
      many,
      ap length is.joined,
      length-append so_far (entries_in is.own),
      ap length next.1,
      length-append frame.entries (entries_in next.0),
    ))

pub none-empty : (number : ℕ) (so_far now : List Entry) (front : List Frame) (frame : Frame) (tail : List Frame)
    → IsCommitBegun number so_far front → frame.last ≡ true → now ≡ so_far ++ frame.entries → length now ≡ 0
    → HoldNone number (front ++ frame ∷ tail)
none-empty number so_far now front frame tail begun last now_is none entries own rest whole holds =
    let is = behind number so_far front (frame ∷ tail) entries own rest begun whole holds in
    let next = (next-of number so_far frame tail is.own is.rest is.whole is.some is.numbered is.marked).1 in
    absurd (omega (
      arith,
      is.some_entries,
      none,
      ap length now_is,
      length-append so_far frame.entries,
      ap length is.joined,
      length-append so_far (entries_in is.own),
      ap length next.1,
      length-append frame.entries (entries_in next.0),
      ap (λ (more : List Frame). length (entries_in more)) (next.2 last),
    ))

pub none-nothing : (number : ℕ) → HoldNone number []
none-nothing number = none-end number [] [] (begun-none number)

-- what holds where a call is Ok
pub when-ok : {T E P : Type 0} (result : Result T E) → is_ok result ≡ true → OnOk result P → P
when-ok (Ok value) ok holds = holds
when-ok (Err fault) ok holds = absurd cc

-- Frames of which the last alone is marked so.
use Rattle.std.proofs.Common.{◌≡◌, ◌<◌, ◌==◌, true, false, List, [], ◌∷◌, ◌++◌, length, refl, sym, ap, ◌∙◌, length-append, arith}
use Rattle.std.specs.List.{AllByRecursion}
use Rattle.std.proofs.lemmas.Bool.{ne_eqb}
use Rattle.update_log.specs.declared.frame.Frame.{Frame}
use Rattle.ordering.specs.Merging.{AreMarked}

no-end : (frame : Frame) (frames : List Frame) → (length (frame ∷ frames) == 0) ≡ false
no-end frame frames = ne_eqb (length (frame ∷ frames)) 0 (λ e. absurd (omega arith))

some-behind : (frames : List Frame) → (length frames == 0) ≡ false → 0 < length frames
some-behind [] e = absurd cc
some-behind (frame ∷ frames) e = omega arith

pub none-behind : (frames : List Frame) → (length frames == 0) ≡ true → frames ≡ []
none-behind [] e = refl
none-behind (frame ∷ frames) e = let some : (length (frame ∷ frames) == 0) ≡ false = no-end frame frames in absurd cc

-- frames that are not marked stand before the last of those that are
pub past-unmarked : (front tail own rest : List Frame) → AllByRecursion (λ frame. frame.last ≡ false) front → AreMarked own → 0 < length own
    → front ++ tail ≡ own ++ rest
    → (more : List Frame) × (own ≡ front ++ more) × (0 < length more) × AreMarked more × (tail ≡ more ++ rest)
past-unmarked [] tail own rest unmarked marked some e = (own, refl, some, marked, e)
past-unmarked (frame ∷ front) tail [] rest unmarked marked some e = absurd (omega arith)
past-unmarked (frame ∷ front) tail (first ∷ own) rest unmarked marked some e =
    let same : frame ≡ first = cc in
    let behind : front ++ tail ≡ own ++ rest = cc in
    let end : (length own == 0) ≡ false = sym marked.0 ∙ ap (λ (f : Frame). f.last) (sym same) ∙ unmarked.0 in
    let past = past-unmarked front tail own rest unmarked.1 marked.1 (some-behind own end) behind in
    let whole : own ≡ front ++ past.0 = past.1 in
    let joined : first ∷ own ≡ frame ∷ (front ++ past.0) = cc in
    (past.0, joined, past.2, past.3, past.4)

-- two lists of such frames that begin the same list are the same
pub same-beginning : (own other a b : List Frame) → 0 < length own → 0 < length other → AreMarked own → AreMarked other
    → own ++ a ≡ other ++ b → (own ≡ other) × (a ≡ b)
same-beginning [] other a b some more marked ends e = absurd (omega arith)
same-beginning (frame ∷ own) [] a b some more marked ends e = absurd (omega arith)
same-beginning (frame ∷ []) (first ∷ []) a b some more marked ends e = (cc, cc)
same-beginning (frame ∷ []) (first ∷ next ∷ other) a b some more marked ends e =
    let same : frame ≡ first = cc in
    let last : frame.last ≡ true = marked.0 in
    let not_last : first.last ≡ false = ends.0 ∙ no-end next other in
    let both : frame.last ≡ first.last = ap (λ (f : Frame). f.last) same in
    absurd cc
same-beginning (frame ∷ next ∷ own) (first ∷ []) a b some more marked ends e =
    let same : frame ≡ first = cc in
    let last : first.last ≡ true = ends.0 in
    let not_last : frame.last ≡ false = marked.0 ∙ no-end next own in
    let both : frame.last ≡ first.last = ap (λ (f : Frame). f.last) same in
    absurd cc
same-beginning (frame ∷ next ∷ own) (first ∷ second ∷ other) a b some more marked ends e =
    let same : frame ≡ first = cc in
    let behind : (next ∷ own) ++ a ≡ (second ∷ other) ++ b = cc in
    let rest = same-beginning (next ∷ own) (second ∷ other) a b (omega arith) (omega arith) marked.1 ends.1 behind in
    let own_is : next ∷ own ≡ second ∷ other = rest.0 in
    (cc, rest.1)

-- frames that are not marked, and one that is
pub marked-end : (front : List Frame) (frame : Frame) → AllByRecursion (λ frame. frame.last ≡ false) front → frame.last ≡ true
    → AreMarked (front ++ frame ∷ [])
marked-end [] frame unmarked last = (last, tt)
marked-end (first ∷ front) frame unmarked last = (
  unmarked.0
      ∙ sym (ne_eqb (length (front ++ frame ∷ [])) 0 (λ e. absurd (omega (arith, length-append front (frame ∷ []))))),
  marked-end front frame unmarked.1 last,
)

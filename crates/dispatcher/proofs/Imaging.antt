-- The pieces of an image: what they hold together, and what applying them makes.
use Rattle.std.proofs.Common.{◌≡◌, ℕ, zero, suc, ◌+◌, ◌-◌, ◌<◌, ◌≤◌, Bool, true, false, cond, ◌==◌, List, [], ◌∷◌, ◌++◌, length}
use Rattle.std.proofs.Common.{Ok, refl, sym, ap, ◌∙◌, arith}
use Rattle.std.specs.List.{flat_map, AllByRecursion}
use Rattle.std.specs.Result.{is_ok}
use Rattle.std.proofs.lemmas.Bool.{cond-false}
use Rattle.std.proofs.lemmas.Bool.Decides.{nat_tests}
use Rattle.std.proofs.lemmas.List.{append_assoc, append-nil}
use Rattle.rows.specs.declared.commit.Commit.{Commit}
use Rattle.rows.specs.declared.entry.Entry.{Entry}
use Rattle.rows.specs.Commits.{apply_commits, tables_after}
use Rattle.rows.specs.Entries.{table_of}
use Rattle.rows.specs.Image.{image_of}
use Rattle.rows.specs.ImageLaws.{AreSpelled, ImagesReplace}
use Rattle.rows.specs.ListLaws.{EachHasTable}
use Rattle.rows.specs.Shape.{Shape}
use Rattle.rows.specs.Tables.{Tables, opening}
use Rattle.update_log.specs.declared.frame.Frame.{Frame}
use Rattle.update_log.specs.Images.{pieces_at}
use Rattle.update_log.specs.Parts.{piece_front_len, fits_in, cut_from, pieces_of, joined}
use Rattle.ordering.specs.Cutting.{commits_between}
use Rattle.ordering.specs.Merging.{AreMarked}
use Rattle.dispatcher.specs.Images.{image_frames, frames_of_base, image_commits}
use Rattle.dispatcher.proofs.Versions.{tables-stay}

-- ---- what they hold

cut-joined : (front : ℕ) (part entries : List Entry) → joined (cut_from front part entries) ≡ part ++ entries
cut-joined front part [] = refl
cut-joined front part (entry ∷ entries) =
    by (λ next. cut-joined front next entries) (fits_in front part entry)
  where
    by : ((next : List Entry) → joined (cut_from front next entries) ≡ next ++ entries) → (fits : Bool)
        → joined (cond fits [] (part ∷ []) ++ cut_from front (cond fits (part ++ entry ∷ []) (entry ∷ [])) entries)
        ≡ part ++ entry ∷ entries
    by rest true = rest (part ++ entry ∷ []) ∙ append_assoc part (entry ∷ []) entries
    by rest false = ap (λ (l : List Entry). part ++ l) (rest (entry ∷ []))

pieces-joined : (entries : List Entry) → joined (pieces_of entries) ≡ entries
pieces-joined [] = refl
pieces-joined (entry ∷ entries) = cut-joined piece_front_len (entry ∷ []) entries

commits-joined : (base number : ℕ) (pieces : List (List Entry))
    → flat_map (λ (commit : Commit). commit.entries) (image_commits (image_frames base number pieces)) ≡ joined pieces
commits-joined base number [] = refl
commits-joined base number (piece ∷ pieces) =
    ap (λ (l : List Entry). piece ++ l) (commits-joined base (number + 1) pieces)

pub frames-many : (base number : ℕ) (pieces : List (List Entry)) → length (image_frames base number pieces) ≡ length pieces
frames-many base number [] = refl
frames-many base number (piece ∷ pieces) = ap suc (frames-many base (number + 1) pieces)

-- the last alone is marked as such
pub frames-marked : (base number : ℕ) (pieces : List (List Entry)) → AreMarked (image_frames base number pieces)
frames-marked base number [] = tt
frames-marked base number (piece ∷ pieces) =
    (ap (λ (n : ℕ). n == 0) (sym (frames-many base (number + 1) pieces)), frames-marked base (number + 1) pieces)

-- ---- those of a base

pub base-marked : (shape : Shape) (commits : List Commit) (base : ℕ) → AreMarked (frames_of_base shape commits base)
base-marked shape commits base = frames-marked base 0 (pieces_at shape commits base)

pub base-many : (shape : Shape) (commits : List Commit) (base : ℕ)
    → length (frames_of_base shape commits base) ≡ length (pieces_at shape commits base)
base-many shape commits base = frames-many base 0 (pieces_at shape commits base)

-- as the list goes on, the pieces at a version that is there stay
pub pieces-stay : (shape : Shape) (commits more : List Commit) (base : ℕ) → base ≤ length commits
    → pieces_at shape (commits ++ more) base ≡ pieces_at shape commits base
pieces-stay shape commits more base below =
    ap (λ (tables : Tables). cond (base == 0) [] (pieces_of (image_of shape tables))) (tables-stay shape commits more base below)

pub base-stays : (shape : Shape) (commits more : List Commit) (base : ℕ) → base ≤ length commits
    → frames_of_base shape (commits ++ more) base ≡ frames_of_base shape commits base
base-stays shape commits more base below = ap (image_frames base 0) (pieces-stay shape commits more base below)

not-opening : (base : ℕ) → 0 < base → (base == 0) ≡ false
not-opening base some = grind (arith, nat_tests)

-- their entries are those of the image
base-joined : (shape : Shape) (commits : List Commit) (base : ℕ) → 0 < base
    → flat_map (λ (commit : Commit). commit.entries) (image_commits (frames_of_base shape commits base))
    ≡ image_of shape (tables_after shape commits base)
base-joined shape commits base some =
    commits-joined base 0 (pieces_at shape commits base)
    ∙ ap joined (cond-false (base == 0) [] (pieces_of (image_of shape (tables_after shape commits base))) (not-opening base some))
    ∙ pieces-joined (image_of shape (tables_after shape commits base))

-- applied to tables without rows, and the commits behind the base after them, they make the tables at a version
pub image-made : ImagesReplace → (shape : Shape) (commits : List Commit) (base to : ℕ) → AreSpelled commits
    → is_ok (apply_commits (opening shape) commits) ≡ true → 0 < base → base ≤ to
    → apply_commits (opening shape) (image_commits (frames_of_base shape commits base) ++ commits_between commits base to)
    ≡ Ok (tables_after shape commits to)
image-made law shape commits base to spelled legal some up =
    let end : base + (to - base) ≡ to = omega arith in
    law shape commits (image_commits (frames_of_base shape commits base)) base (to - base) spelled legal
    (base-joined shape commits base some)
    ∙ ap (λ (n : ℕ). Ok (tables_after shape commits n)) end

-- ---- their tables

-- the tables of the entries of a piece are there
abbrev pub PieceFits : ℕ → Frame → Type 0
PieceFits tables piece = AllByRecursion (λ entry. table_of entry < tables) piece.entries

of-commits : (tables : ℕ) (pieces : List Frame)
    → AllByRecursion (λ commit. AllByRecursion (λ entry. table_of entry < tables) commit.entries) (image_commits pieces)
    → AllByRecursion (PieceFits tables) pieces
of-commits tables [] each = tt
of-commits tables (piece ∷ pieces) each = (each.0, of-commits tables pieces each.1)

pub base-fits : ImagesReplace → EachHasTable → (shape : Shape) (commits : List Commit) (base : ℕ) → AreSpelled commits
    → is_ok (apply_commits (opening shape) commits) ≡ true → AllByRecursion (PieceFits (length shape)) (frames_of_base shape commits base)
base-fits law tables shape commits zero spelled legal = tt
base-fits law tables shape commits (suc before) spelled legal =
    of-commits (length shape) (frames_of_base shape commits (suc before))
    (tables shape (image_commits (frames_of_base shape commits (suc before)))
    (ap (λ l. is_ok (apply_commits (opening shape) l))
    (sym (append-nil (image_commits (frames_of_base shape commits (suc before)))))
    ∙ ap is_ok (law shape commits (image_commits (frames_of_base shape commits (suc before))) (suc before) 0 spelled legal
    (base-joined shape commits (suc before) (omega arith)))))

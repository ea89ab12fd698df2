-- What a flush leaves: the first pending commits are durable, and their records stand behind the journal's text.
use Rattle.std.proofs.Common.{◌≡◌, ◌+◌, ◌-◌, ℕ, suc, min, Bool, List, [], ◌∷◌, ◌++◌, length, take, drop, sym, ap, ◌∙◌, arith}
use Rattle.std.proofs.Math.Seq.{take-add}
use Rattle.std.proofs.lemmas.List.{append_assoc, take_min, drop_min, drop-drop, take-append-drop}
use Rattle.rows.specs.declared.commit.Commit.{Commit}
use Rattle.rows.specs.Shape.{Shape}
use Rattle.mvcc.specs.VersionList.{VersionList}
use Rattle.journal.specs.declared.form.Form.{Form}
use Rattle.journal.specs.Laws.{TextGrows}
use Rattle.journal.specs.Recovery.{IsBeginning, HasForm}
use Rattle.journal.specs.Text.{record_of, records_from, journal_text}
use Rattle.primary.specs.Journaling.{offered}
use Rattle.primary.specs.State.{Primary}
use Rattle.primary.specs.Steps.{flushed}
use Rattle.primary.specs.Inner.Parts.{primary_of}

-- records behind others
pub records_from_append : (before : ℕ) (xs ys : List Commit)
    → records_from before (xs ++ ys) ≡ records_from before xs ++ records_from (before + length xs) ys
records_from_append before [] ys = ap (λ n. records_from n ys) (omega arith)
records_from_append before (x ∷ xs) ys =
    let same : before + 1 + length xs ≡ before + suc (length xs) = omega arith in
    ap (λ rest. record_of (before + 1) x ++ rest)
    (records_from_append (before + 1) xs ys ∙ ap (λ n. records_from (before + 1) xs ++ records_from n ys) same)
    ∙ sym (append_assoc (record_of (before + 1) x) (records_from (before + 1) xs) (records_from (before + suc (length xs)) ys))

-- the text with the records of the commits that are moved
pub moved_text : (grows : TextGrows) (form : Form) (workers : ℕ) (shape : Shape) (durable moved : List Commit) (old new : List ℕ)
    → HasForm form durable → old ≡ journal_text form workers shape durable → new ≡ old ++ records_from (length durable) moved
    → new ≡ journal_text form workers shape (durable ++ moved)
moved_text grows form workers shape durable moved old new formed text appended =
    appended ∙ ap (λ text. text ++ records_from (length durable) moved) text ∙ sym (grows form workers shape durable moved formed)

-- how many are moved
moved_many : (commits : List Commit) (durable count moved : ℕ) → moved ≡ min count (length (drop durable commits))
    → (take moved (drop durable commits) ≡ take count (drop durable commits))
    × (drop (durable + moved) commits ≡ drop count (drop durable commits))
moved_many commits durable count moved h =
    let pending = drop durable commits in (
      ap (λ n. take n pending) h ∙ take_min count pending,
      sym (drop-drop moved durable commits) ∙ ap (λ n. drop n pending) h ∙ drop_min count pending,
    )

-- the primary after the move
pub flushed_is : (versions : VersionList) (durable count moved workers : ℕ) (failed : Bool) (base : ℕ)
    → moved ≡ min count (length (drop durable versions.commits))
    → primary_of versions (durable + moved) workers failed base ≡ flushed (primary_of versions durable workers failed base) count
flushed_is versions durable count moved workers failed base h =
    let parts = moved_many versions.commits durable count moved h in
    rw (take-add durable moved versions.commits, parts.0, parts.1)

-- the commits whose records are offered
pub offered_are : (commits : List Commit) (durable count moved : ℕ) → moved ≡ min count (length (drop durable commits))
    → take (durable + moved - durable) (drop durable commits) ≡ take count (drop durable commits)
offered_are commits durable count moved h =
    let few : durable + moved - durable ≡ moved = omega arith in
    ap (λ n. take n (drop durable commits)) few ∙ (moved_many commits durable count moved h).0

-- the records that are offered begin those of all that is pending, also of what was committed meanwhile
pub offered-begin : (p : Primary) (count : ℕ) (more : List Commit)
    → IsBeginning (offered p count) (records_from (length p.durable) (p.pending ++ more))
offered-begin p count more =
    let moved = take count p.pending in
    let parts : p.pending ++ more ≡ moved ++ (drop count p.pending ++ more) =
    ap (λ commits. commits ++ more) (sym (take-append-drop count p.pending)) ∙ append_assoc moved (drop count p.pending) more in (
      records_from (length p.durable + length moved) (drop count p.pending ++ more),
      ap (λ commits. records_from (length p.durable) commits) parts
          ∙ records_from_append (length p.durable) moved (drop count p.pending ++ more),
    )

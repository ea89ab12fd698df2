-- Texts that begin the same bytes: they have one header, the items of one begin those of the other, and one text is of one list.
use Rattle.std.proofs.Common.{◌≡◌, ℕ, ◌+◌, ◌≤◌, ◌⊎◌, inl, inr, List, [], ◌++◌, length, get_or, refl, sym, ap, subst, ◌∙◌, append_assoc}
use Rattle.std.proofs.Common.{length-append, arith}
use Rattle.std.specs.List.{AllByRecursion}
use Rattle.std.proofs.lemmas.List.{append-nil, append_cancel_left}
use Rattle.rows.specs.declared.commit.Commit.{Commit}
use Rattle.rows.specs.Laws.{SpelledAreFound}
use Rattle.rows.specs.Shape.{Shape}
use Rattle.journal.specs.declared.form.Form.{Form}
use Rattle.journal.specs.Laws.{TextsAreOneToOne, IsNested}
use Rattle.journal.specs.Recovery.{IsBeginning, HasRecord, HasForm, IsTextIn, IsKept}
use Rattle.journal.specs.Text.{version_code, header, marked_records, journal_text}
use Rattle.journal.proofs.Items.{Item, items_text, items_of, text-of_items, all-items, nested, text-longer, same-items, same-text}
use Rattle.journal.proofs.Items.{commits-of_items, commits-front, commits_of}

-- a text that begins bytes is a header, and records before what stands behind
pub behind_header : (form : Form) (workers : ℕ) (shape : Shape) (bytes records more : List ℕ)
    → bytes ≡ (header form workers shape ++ records) ++ more → bytes ≡ header form workers shape ++ (records ++ more)
behind_header form workers shape bytes records more e = e ∙ append_assoc (header form workers shape) records more

-- bytes have one version in their header
pub same-code : (form other : Form) (workers : ℕ) (shape : Shape) (bytes more more' : List ℕ) → bytes ≡ header form workers shape ++ more
    → bytes ≡ header other workers shape ++ more' → version_code form ≡ version_code other
same-code form other workers shape bytes more more' e e' =
    let here : get_or bytes 3 0 ≡ version_code form = ap (λ (b : List ℕ). get_or b 3 0) e in
    let there : get_or bytes 3 0 ≡ version_code other = ap (λ (b : List ℕ). get_or b 3 0) e' in
    sym here ∙ there

pub same-header : (form other : Form) (workers : ℕ) (shape : Shape) → version_code form ≡ version_code other
    → header form workers shape ≡ header other workers shape
same-header form other workers shape e = rw e refl

-- two texts that begin the same bytes
pub record AreNested (form other : Form) (commits others : List Commit) : Type 0 where
  pub code : version_code form ≡ version_code other
  pub items : IsBeginning (items_of form commits) (items_of other others) ⊎ IsBeginning (items_of other others) (items_of form commits)

pub are_nested : (law : SpelledAreFound) (form other : Form) (workers : ℕ) (shape : Shape) (bytes : List ℕ) (commits others : List Commit)
    → AllByRecursion HasRecord commits → AllByRecursion HasRecord others → HasForm form commits → HasForm other others
    → IsBeginning (journal_text form workers shape commits) bytes → IsBeginning (journal_text other workers shape others) bytes
    → AreNested form other commits others
are_nested law form other workers shape bytes commits others held held' formed formed' one two =
    let records = marked_records form commits in
    let records' = marked_records other others in
    let at = behind_header form workers shape bytes records one.0 one.1 in
    let at' = behind_header other workers shape bytes records' two.0 two.1 in
    let code = same-code form other workers shape bytes (records ++ one.0) (records' ++ two.0) at at' in
    let behind : records ++ one.0 ≡ records' ++ two.0 =
    append_cancel_left (header other workers shape) (records ++ one.0) (records' ++ two.0)
    (ap (λ (t : List ℕ). t ++ (records ++ one.0)) (sym (same-header form other workers shape code)) ∙ sym at ∙ at') in
    record {
      code = code;
      items =
          nested law 0 (records ++ one.0) one.0 two.0 (items_of form commits) (items_of other others) (all-items form commits held)
          (all-items other others held')
          (ap (λ (t : List ℕ). t ++ one.0) (text-of_items form commits formed))
          (behind ∙ ap (λ (t : List ℕ). t ++ two.0) (text-of_items other others formed'));
    }

pub text_length : (form : Form) (workers : ℕ) (shape : Shape) (commits : List Commit) → HasForm form commits
    → length (journal_text form workers shape commits) ≡ length (header form workers shape) + length (items_text 0 (items_of form commits))
text_length form workers shape commits formed =
    omega (
      arith,
      length-append (header form workers shape) (marked_records form commits),
      ap length (text-of_items form commits formed),
    )

-- where one version stands in both headers, a text is no longer than another if its items are
pub items-length : (form other : Form) (workers : ℕ) (shape : Shape) (commits others : List Commit) → HasForm form commits
    → HasForm other others → version_code form ≡ version_code other
    → length (journal_text form workers shape commits) ≤ length (journal_text other workers shape others)
    → length (items_text 0 (items_of form commits)) ≤ length (items_text 0 (items_of other others))
items-length form other workers shape commits others formed formed' code few =
    omega (
      arith,
      few,
      text_length form workers shape commits formed,
      text_length other workers shape others formed',
      ap length (same-header form other workers shape code),
    )

-- two texts that begin the same bytes, each no longer than the other, are one
pub one_text : (law : SpelledAreFound) (form other : Form) (workers : ℕ) (shape : Shape) (bytes : List ℕ) (commits others : List Commit)
    → AllByRecursion HasRecord commits → AllByRecursion HasRecord others → HasForm form commits → HasForm other others
    → IsBeginning (journal_text form workers shape commits) bytes → IsBeginning (journal_text other workers shape others) bytes
    → length (journal_text form workers shape commits) ≤ length (journal_text other workers shape others)
    → length (journal_text other workers shape others) ≤ length (journal_text form workers shape commits)
    → (form ≡ other) × (commits ≡ others)
one_text law form other workers shape bytes commits others held held' formed formed' one two here there =
    let both = are_nested law form other workers shape bytes commits others held held' formed formed' one two in
    let few = items-length form other workers shape commits others formed formed' both.code here in
    let few' = items-length other form workers shape others commits formed' formed (sym both.code) there in
    let same : items_of form commits ≡ items_of other others =
    elim both.items [
      | inl front ↦ same-items (items_of form commits) (items_of other others) front few'
      | inr front ↦ sym (same-items (items_of other others) (items_of form commits) front few)
    ] in
    same-text form other commits others formed formed' both.code same

pub one_kept : (law : SpelledAreFound) (form other : Form) (workers : ℕ) (shape : Shape) (bytes : List ℕ) (commits others : List Commit)
    → IsKept form workers shape bytes commits → IsKept other workers shape bytes others → (form ≡ other) × (commits ≡ others)
one_kept law form other workers shape bytes commits others one two =
    one_text law form other workers shape bytes commits others one.is.journaled.records two.is.journaled.records one.is.formed
    two.is.formed one.is.text two.is.text (two.longest form commits one.is) (one.longest other others two.is)

pub is_one_to_one : SpelledAreFound → TextsAreOneToOne
is_one_to_one law form other workers shape commits others held held' formed formed' e =
    let bytes = journal_text form workers shape commits in
    one_text law form other workers shape bytes commits others held held' formed formed' ([], sym (append-nil bytes))
    ([], e ∙ sym (append-nil (journal_text other workers shape others)))
    (omega (arith, ap length e)) (omega (arith, ap length e))

pub is_nested : SpelledAreFound → IsNested
is_nested law form other workers shape bytes commits others one two =
    let both =
    are_nested law form other workers shape bytes commits others one.journaled.records two.journaled.records one.formed two.formed one.text
    two.text in
    elim both.items [
      | inl front ↦ inl (as_commits form other commits others front)
      | inr front ↦ inr (as_commits other form others commits front)
    ]
  where
    as_commits : (one two : Form) (xs ys : List Commit) → IsBeginning (items_of one xs) (items_of two ys) → IsBeginning xs ys
    as_commits one two xs ys front =
        let found = commits-front (items_of one xs) (items_of two ys) front in (
          found.0,
          sym (commits-of_items two ys) ∙ found.1 ∙ ap (λ (cs : List Commit). cs ++ found.0) (commits-of_items one xs),
        )

-- The journal's text, table by table and commit by commit, and how it goes on.
use Rattle.std.proofs.Common.{◌≡◌, ◌+◌, ◌<◌, ◌≤◌, ℕ, suc, zero, List, [], ◌∷◌, ◌++◌, length, take, drop, get_or, slice_get, None, Some}
use Rattle.std.proofs.Common.{refl, sym, ap, ◌∙◌, arith}
use Rattle.std.specs.List.{flat_map, list_all}
use Rattle.std.proofs.lemmas.List.{take_all, flat_map_more, length-map, append_assoc, append-nil, take_more}
use Rattle.std.proofs.lemmas.List.{length-take-le, length-drop, length-append}
use Rattle.std.proofs.lemmas.Option.{slice_get_within, get_or_from_slice_get}
use Rattle.byteorder.specs.Endian.{big_bytes}
use Rattle.rows.specs.declared.commit.Commit.{Commit}
use Rattle.rows.specs.declared.entry.Entry.{Entry}
use Rattle.rows.specs.declared.kind.Kind.{Kind}
use Rattle.rows.specs.Shape.{Shape, shape_of}
use Rattle.rows.specs.Spelling.{entry_spelling}
use Rattle.journal.specs.declared.form.Form.{Form}
use Rattle.journal.specs.declared.form.Form.TheVariants.{New, Old, Marked}
use Rattle.journal.specs.Laws.{TextGrows, StartMarks, StartedGoesOn}
use Rattle.journal.specs.Recovery.{is_old, HasForm}
use Rattle.journal.specs.Text.{journal_magic, version_code, table_header, record_body, record_of, records_from}
use Rattle.journal.specs.Text.{header, mark, marked_records}

-- what stands before the tables
abbrev header_front : Form → ℕ → Shape → List ℕ
header_front form workers shape = journal_magic ++ (version_code form ∷ workers ∷ length shape ∷ [])

-- the header of the first tables, with the number of all
abbrev pub header_so_far : Form → ℕ → Shape → ℕ → List ℕ
header_so_far form workers shape n = header_front form workers shape ++ flat_map table_header (take n shape)

-- records behind others
pub records_from_append : (before : ℕ) (xs ys : List Commit)
    → records_from before (xs ++ ys) ≡ records_from before xs ++ records_from (before + length xs) ys
records_from_append before [] ys = ap (λ n. records_from n ys) (omega arith)
records_from_append before (x ∷ xs) ys =
    let same : before + 1 + length xs ≡ before + suc (length xs) = omega arith in
    ap (λ rest. record_of (before + 1) x ++ rest)
    (records_from_append (before + 1) xs ys ∙ ap (λ n. records_from (before + 1) xs ++ records_from n ys) same)
    ∙ sym (append_assoc (record_of (before + 1) x) (records_from (before + 1) xs) (records_from (before + suc (length xs)) ys))

-- the record of one commit more
pub records_from_more : (before : ℕ) (commits : List Commit) (i : ℕ) (commit : Commit) → i < length commits
    → commit ≡ get_or commits i commit
    → records_from before (take (i + 1) commits) ≡ records_from before (take i commits) ++ record_of (before + i + 1) commit
records_from_more before commits i commit h e =
    let same : before + length (take i commits) ≡ before + i = omega (arith, length-take-le i commits (omega arith)) in
    ap (records_from before) (take_more commits i commit h ∙ ap (λ c. take i commits ++ c ∷ []) (sym e))
    ∙ records_from_append before (take i commits) (commit ∷ [])
    ∙ ap (λ n. records_from before (take i commits) ++ (record_of (n + 1) commit ++ [])) same
    ∙ ap (λ r. records_from before (take i commits) ++ r) (append-nil (record_of (before + i + 1) commit))

-- a front of the right length, and the entries, are the record
record_of_parts : (front : List ℕ) (len number : ℕ) (commit : Commit) → len ≡ 11 + length (flat_map entry_spelling commit.entries)
    → front ≡ big_bytes 4 len ++ (commit.worker ∷ []) ++ big_bytes 8 number ++ big_bytes 2 (length commit.entries)
    → front ++ flat_map entry_spelling commit.entries ≡ record_of number commit
record_of_parts front len number commit counted e =
    let same : len ≡ length (record_body number commit) = omega arith in
    ap (λ front. front ++ flat_map entry_spelling commit.entries) e ∙ ap (λ n. big_bytes 4 n ++ record_body number commit) same

-- and they have been written one behind the other
pub record_written : (old front fronted written : List ℕ) (len number : ℕ) (commit : Commit) (entries : List Entry) (i : ℕ)
    → entries ≡ commit.entries
    → len ≡ 11 + length (flat_map entry_spelling entries)
    → front ≡ big_bytes 4 len ++ (commit.worker ∷ []) ++ big_bytes 8 number ++ big_bytes 2 (length entries)
    → fronted ≡ old ++ front → written ≡ fronted ++ flat_map entry_spelling (take i entries) → length entries ≤ i
    → written ≡ old ++ record_of number commit
record_written old front fronted written len number commit entries i same counted is_front first then all =
    let counted' = rw same at counted in
    let is_front' = rw same at is_front in
    then
    ∙ ap (λ text. text ++ flat_map entry_spelling (take i entries)) first
    ∙ ap (λ entries. (old ++ front) ++ flat_map entry_spelling entries) (take_all i entries all ∙ same)
    ∙ append_assoc old front (flat_map entry_spelling commit.entries)
    ∙ ap (λ text. old ++ text) (record_of_parts front len number commit counted' is_front')

-- the kinds at an index of the shape
none_past : {X : Type 0} (xs : List X) (i : ℕ) → slice_get xs i ≡ None → length xs ≤ i
none_past [] i h = omega arith
none_past (x ∷ xs) zero h = cc
none_past (x ∷ xs) (suc i) h = omega (arith, none_past xs i h)

-- the header with the part of one table more
pub header_more : (form : Form) (workers : ℕ) (shape : Shape) (table : ℕ) (kinds : List Kind) → slice_get shape table ≡ Some kinds
    → header_so_far form workers shape table ++ table_header kinds ≡ header_so_far form workers shape (table + 1)
header_more form workers shape table kinds h =
    let within = slice_get_within shape table kinds h in
    let front = header_front form workers shape in
    flat_map_more table_header front (take table shape) kinds
    ∙ ap (λ tables. front ++ flat_map table_header tables)
    (ap (λ k. take table shape ++ k ∷ []) (sym (get_or_from_slice_get shape table kinds kinds h))
    ∙ sym (take_more shape table kinds within))

-- there is no index without kinds before the end
pub no_gap : (schema : List (List ℕ × List Kind)) (table : ℕ) → table < length schema → None ≡ slice_get (shape_of schema) table → ⊥
no_gap schema table within none = omega (arith, none_past (shape_of schema) table (sym none), length-map schema (λ t. t.1))

-- ---- how a text goes on

take-front : {X : Type 0} (count : ℕ) (xs ys : List X) → count ≤ length xs → take count (xs ++ ys) ≡ take count xs
take-front zero xs ys h = refl
take-front (suc count) [] ys h = absurd (omega (arith, h))
take-front {X = X} (suc count) (x ∷ xs) ys h = ap (λ (rest : List X). x ∷ rest) (take-front count xs ys (omega (arith, h)))

drop-front : {X : Type 0} (count : ℕ) (xs ys : List X) → count ≤ length xs → drop count (xs ++ ys) ≡ drop count xs ++ ys
drop-front zero xs ys h = refl
drop-front (suc count) [] ys h = absurd (omega (arith, h))
drop-front (suc count) (x ∷ xs) ys h = drop-front count xs ys (omega (arith, h))

drop-whole : {X : Type 0} (xs : List X) → drop (length xs) xs ≡ []
drop-whole [] = refl
drop-whole (x ∷ xs) = drop-whole xs

records-grow : (commits more : List Commit) → records_from 0 (commits ++ more) ≡ records_from 0 commits ++ records_from
    (length commits) more
records-grow commits more =
    let same : 0 + length commits ≡ length commits = omega arith in
    records_from_append 0 commits more ∙ ap (λ (n : ℕ). records_from 0 commits ++ records_from n more) same

-- the records of more commits, behind the mark too
pub marked-grow : (form : Form) (commits more : List Commit) → HasForm form commits
    → marked_records form (commits ++ more) ≡ marked_records form commits ++ records_from (length commits) more
marked-grow New commits more formed = records-grow commits more
marked-grow Old commits more formed = records-grow commits more
marked-grow (Marked count) commits more formed =
    let front = records_from 0 (take count commits) in
    let back = records_from count (drop count commits) in
    let last = records_from (length commits) more in
    let counted : count + length (drop count commits) ≡ length commits = omega (arith, length-drop count commits, formed.0) in
    ap (λ (cs : List Commit). records_from 0 cs ++ (mark ++ records_from count (drop count (commits ++ more))))
    (take-front count commits more formed.0)
    ∙ ap (λ (cs : List Commit). front ++ (mark ++ records_from count cs)) (drop-front count commits more formed.0)
    ∙ ap (λ (t : List ℕ). front ++ (mark ++ t))
    (records_from_append count (drop count commits) more ∙ ap (λ (n : ℕ). back ++ records_from n more) counted)
    ∙ sym (append_assoc front (mark ++ back) last)

pub text-grows : TextGrows
text-grows form workers shape commits more formed =
    ap (λ (t : List ℕ). header form workers shape ++ t) (marked-grow form commits more formed)
    ∙ sym (append_assoc (header form workers shape) (marked_records form commits) (records_from (length commits) more))

-- the mark behind a text of version 1
pub start-marks : StartMarks
start-marks New workers shape commits = append-nil (header New workers shape ++ records_from 0 commits)
start-marks (Marked at) workers shape commits = append-nil (header (Marked at) workers shape ++ marked_records (Marked at) commits)
start-marks Old workers shape commits =
    let head = header Old workers shape in
    let records = records_from 0 commits in
    let none : mark ++ records_from (length commits) (drop (length commits) commits) ≡ mark =
    ap (λ (cs : List Commit). mark ++ records_from (length commits) cs) (drop-whole commits) in
    append_assoc head records mark
    ∙ ap (λ (t : List ℕ). head ++ (records ++ t)) (sym none)
    ∙ ap (λ (cs : List Commit). head ++ (records_from 0 cs ++ (mark ++ records_from (length commits) (drop (length commits) commits))))
    (sym (take_all (length commits) commits (omega arith)))

pub started-goes_on : StartedGoesOn
started-goes_on New commits more formed = tt
started-goes_on Old commits more formed =
    let whole : take (length commits) (commits ++ more) ≡ commits =
    take-front (length commits) commits more (omega arith) ∙ take_all (length commits) commits (omega arith) in (
      omega (arith, length-append commits more),
      ap (list_all is_old) whole ∙ formed,
    )
started-goes_on (Marked count) commits more formed = (
  omega (arith, length-append commits more, formed.0),
  ap (list_all is_old) (take-front count commits more formed.0) ∙ formed.1,
)

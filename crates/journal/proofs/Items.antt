-- A text behind its header as a list of items, each a record or the mark: of two lists of items whose texts begin the same bytes one
-- begins the other.
use Rattle.std.proofs.Common.{◌≡◌, ℕ, zero, suc, ◌+◌, ◌<◌, ◌≤◌, ◌⊎◌, inl, inr, Bool, true, List, [], ◌∷◌, ◌++◌, length, map, take, drop}
use Rattle.std.proofs.Common.{Option, None, Some, get_or, refl, sym, ap, subst, ◌∙◌, append_assoc, length-append, arith}
use Rattle.std.specs.List.{AllByRecursion, list_all}
use Rattle.std.proofs.lemmas.Bool.{and_parts}
use Rattle.std.proofs.lemmas.List.{append-nil, append_cancel_left, length-take, length-take-le, take-append-drop}
use Rattle.byteorder.specs.Endian.{big_number}
use Rattle.rows.specs.declared.commit.Commit.{Commit}
use Rattle.rows.specs.Laws.{SpelledAreFound}
use Rattle.rows.specs.Shape.{Shape}
use Rattle.journal.specs.declared.form.Form.{Form}
use Rattle.journal.specs.declared.form.Form.TheVariants.{New, Old, Marked}
use Rattle.journal.specs.Recovery.{IsBeginning, HasRecord, is_old, HasForm}
use Rattle.journal.specs.Text.{version_code, mark, record_body, record_of, records_from, marked_records}
use Rattle.journal.proofs.RecordLaws.{same_commit, front_len, record_of-length, body-some}

pub data Item : Type 0 where
  One : Commit → Item
  Mark : Item

-- the text of items that stand behind `before` records
abbrev pub items_text : ℕ → List Item → List ℕ
items_text before [] = []
items_text before (One commit ∷ items) = record_of (before + 1) commit ++ items_text (before + 1) items
items_text before (Mark ∷ items) = mark ++ items_text before items

abbrev pub items_of : Form → List Commit → List Item
items_of New commits = map One commits
items_of Old commits = map One commits
items_of (Marked count) commits = map One (take count commits) ++ Mark ∷ map One (drop count commits)

-- an item that has a text: the mark, or a record
abbrev pub HasItem : Item → Type 0
HasItem (One commit) = HasRecord commit
HasItem Mark = Unit {0}

abbrev pub commits_of : List Item → List Commit
commits_of [] = []
commits_of (One commit ∷ items) = commit ∷ commits_of items
commits_of (Mark ∷ items) = commits_of items

-- how many commits stand before the first mark, if there is one
abbrev pub mark_at : List Item → Option ℕ
mark_at [] = None
mark_at (One commit ∷ items) = one_more (mark_at items)
  where
    one_more : Option ℕ → Option ℕ
    one_more None = None
    one_more (Some count) = Some (suc count)
mark_at (Mark ∷ items) = Some 0

abbrev pub marks : List Item → ℕ
marks [] = 0
marks (One commit ∷ items) = marks items
marks (Mark ∷ items) = suc (marks items)

-- the commits before the first mark are of version 1
abbrev pub OldBefore : List Item → Type 0
OldBefore [] = Unit {0}
OldBefore (One commit ∷ items) = (is_old commit ≡ true) × OldBefore items
OldBefore (Mark ∷ items) = Unit {0}

-- ---- texts of items

pub text-append : (before : ℕ) (xs ys : List Item)
    → items_text before (xs ++ ys) ≡ items_text before xs ++ items_text (before + length (commits_of xs)) ys
text-append before [] ys = ap (λ n. items_text n ys) (omega arith)
text-append before (One commit ∷ xs) ys =
    let one = record_of (before + 1) commit in
    let same : before + 1 + length (commits_of xs) ≡ before + suc (length (commits_of xs)) = omega arith in
    ap (λ (rest : List ℕ). one ++ rest)
    (text-append (before + 1) xs ys ∙ ap (λ n. items_text (before + 1) xs ++ items_text n ys) same)
    ∙ sym (append_assoc one (items_text (before + 1) xs) (items_text (before + suc (length (commits_of xs))) ys))
text-append before (Mark ∷ xs) ys =
    ap (λ (rest : List ℕ). mark ++ rest) (text-append before xs ys)
    ∙ sym (append_assoc mark (items_text before xs) (items_text (before + length (commits_of xs)) ys))

pub text-ones : (before : ℕ) (commits : List Commit) → items_text before (map One commits) ≡ records_from before commits
text-ones before [] = refl
text-ones before (commit ∷ commits) = ap (λ (rest : List ℕ). record_of (before + 1) commit ++ rest) (text-ones (before + 1) commits)

pub commits-ones : (commits : List Commit) → commits_of (map One commits) ≡ commits
commits-ones [] = refl
commits-ones (commit ∷ commits) = ap (λ (rest : List Commit). commit ∷ rest) (commits-ones commits)

commits-append : (xs ys : List Item) → commits_of (xs ++ ys) ≡ commits_of xs ++ commits_of ys
commits-append [] ys = refl
commits-append (One commit ∷ xs) ys = ap (λ (rest : List Commit). commit ∷ rest) (commits-append xs ys)
commits-append (Mark ∷ xs) ys = commits-append xs ys

pub commits-front : (xs ys : List Item) → IsBeginning xs ys → IsBeginning (commits_of xs) (commits_of ys)
commits-front xs ys front = (commits_of front.0, ap commits_of front.1 ∙ commits-append xs front.0)

-- the items of commits have these commits, and the text of their form
pub commits-of_items : (form : Form) (commits : List Commit) → commits_of (items_of form commits) ≡ commits
commits-of_items New commits = commits-ones commits
commits-of_items Old commits = commits-ones commits
commits-of_items (Marked count) commits =
    commits-append (map One (take count commits)) (Mark ∷ map One (drop count commits))
    ∙ ap (λ (cs : List Commit). cs ++ commits_of (map One (drop count commits))) (commits-ones (take count commits))
    ∙ ap (λ (cs : List Commit). take count commits ++ cs) (commits-ones (drop count commits))
    ∙ take-append-drop count commits

pub text-of_items : (form : Form) (commits : List Commit) → HasForm form commits
    → marked_records form commits ≡ items_text 0 (items_of form commits)
text-of_items New commits formed = sym (text-ones 0 commits)
text-of_items Old commits formed = sym (text-ones 0 commits)
text-of_items (Marked count) commits formed =
    let front = take count commits in
    let back = drop count commits in
    let counted : 0 + length (commits_of (map One front)) ≡ count =
    omega (arith, ap length (commits-ones front), length-take-le count commits formed.0) in
    sym (text-append 0 (map One front) (Mark ∷ map One back)
    ∙ ap (λ (n : ℕ). items_text 0 (map One front) ++ items_text n (Mark ∷ map One back)) counted
    ∙ ap (λ (t : List ℕ). t ++ items_text count (Mark ∷ map One back)) (text-ones 0 front)
    ∙ ap (λ (t : List ℕ). records_from 0 front ++ (mark ++ t)) (text-ones count back))

-- ---- of each item

all-ones : (commits : List Commit) → AllByRecursion HasRecord commits → AllByRecursion HasItem (map One commits)
all-ones [] held = tt
all-ones (commit ∷ commits) held = (held.0, all-ones commits held.1)

all-joined : (xs ys : List Item) → AllByRecursion HasItem xs → AllByRecursion HasItem ys → AllByRecursion HasItem (xs ++ ys)
all-joined [] ys left right = right
all-joined (x ∷ xs) ys left right = (left.0, all-joined xs ys left.1 right)

records-front : (count : ℕ) (commits : List Commit) → AllByRecursion HasRecord commits → AllByRecursion HasRecord (take count commits)
records-front zero commits held = tt
records-front (suc count) [] held = tt
records-front (suc count) (commit ∷ commits) held = (held.0, records-front count commits held.1)

records-back : (count : ℕ) (commits : List Commit) → AllByRecursion HasRecord commits → AllByRecursion HasRecord (drop count commits)
records-back zero commits held = held
records-back (suc count) [] held = tt
records-back (suc count) (commit ∷ commits) held = records-back count commits held.1

pub all-items : (form : Form) (commits : List Commit) → AllByRecursion HasRecord commits → AllByRecursion HasItem (items_of form commits)
all-items New commits held = all-ones commits held
all-items Old commits held = all-ones commits held
all-items (Marked count) commits held =
    all-joined (map One (take count commits)) (Mark ∷ map One (drop count commits))
    (all-ones (take count commits) (records-front count commits held))
    (tt, all-ones (drop count commits) (records-back count commits held))

-- ---- one begins the other

-- a record is no mark
no-mark : (number : ℕ) (commit : Commit) (rest rest' : List ℕ) → HasRecord commit → record_of number commit ++ rest ≡ mark ++ rest' → ⊥
no-mark number commit rest rest' held e =
    let len : big_number 4 (mark ++ rest') ≡ length (record_body number commit) =
    ap (big_number 4) (sym e) ∙ front_len number commit rest held in
    let none : big_number 4 (mark ++ rest') ≡ 0 = refl in
    absurd (omega (arith, body-some number commit held, len, none))

both-longer : (x : Item) (xs ys : List Item) → IsBeginning xs ys ⊎ IsBeginning ys xs
    → IsBeginning (x ∷ xs) (x ∷ ys) ⊎ IsBeginning (x ∷ ys) (x ∷ xs)
both-longer x xs ys (inl h) = inl (h.0, ap (λ (zs : List Item). x ∷ zs) h.1)
both-longer x xs ys (inr h) = inr (h.0, ap (λ (zs : List Item). x ∷ zs) h.1)

pub nested : (law : SpelledAreFound) (before : ℕ) (bytes more more' : List ℕ) (xs ys : List Item) → AllByRecursion HasItem xs
    → AllByRecursion HasItem ys → bytes ≡ items_text before xs ++ more → bytes ≡ items_text before ys ++ more'
    → IsBeginning xs ys ⊎ IsBeginning ys xs
nested law before bytes more more' [] ys held held' e e' = inl (ys, refl)
nested law before bytes more more' (x ∷ xs) [] held held' e e' = inr (x ∷ xs, refl)
nested law before bytes more more' (Mark ∷ xs) (Mark ∷ ys) held held' e e' =
    let rest = items_text before xs ++ more in
    let rest' = items_text before ys ++ more' in
    let behind : rest ≡ rest' =
    append_cancel_left mark rest rest'
    (sym (append_assoc mark (items_text before xs) more) ∙ sym e ∙ e' ∙ append_assoc mark (items_text before ys) more') in
    both-longer Mark xs ys (nested law before rest more more' xs ys held.1 held'.1 refl behind)
nested law before bytes more more' (One commit ∷ xs) (Mark ∷ ys) held held' e e' =
    let one = record_of (before + 1) commit in
    absurd (no-mark (before + 1) commit (items_text (before + 1) xs ++ more) (items_text before ys ++ more') held.0
    (sym (append_assoc one (items_text (before + 1) xs) more) ∙ sym e ∙ e' ∙ append_assoc mark (items_text before ys) more'))
nested law before bytes more more' (Mark ∷ xs) (One commit ∷ ys) held held' e e' =
    let one = record_of (before + 1) commit in
    absurd (no-mark (before + 1) commit (items_text (before + 1) ys ++ more') (items_text before xs ++ more) held'.0
    (sym (append_assoc one (items_text (before + 1) ys) more') ∙ sym e' ∙ e ∙ append_assoc mark (items_text before xs) more))
nested law before bytes more more' (One commit ∷ xs) (One other ∷ ys) held held' e e' =
    let rest = items_text (before + 1) xs ++ more in
    let rest' = items_text (before + 1) ys ++ more' in
    let one : bytes ≡ record_of (before + 1) commit ++ rest =
    e ∙ append_assoc (record_of (before + 1) commit) (items_text (before + 1) xs) more in
    let two : bytes ≡ record_of (before + 1) other ++ rest' =
    e' ∙ append_assoc (record_of (before + 1) other) (items_text (before + 1) ys) more' in
    let same = (same_commit law bytes (before + 1) (before + 1) commit other held.0 held'.0 (rest, one) (rest', two)).1 in
    let behind : rest ≡ rest' =
    append_cancel_left (record_of (before + 1) other) rest rest'
    (ap (λ (c : Commit). record_of (before + 1) c ++ rest) (sym same) ∙ sym one ∙ two) in
    subst (λ (c : Commit). IsBeginning (One commit ∷ xs) (One c ∷ ys) ⊎ IsBeginning (One c ∷ ys) (One commit ∷ xs)) same
    (both-longer (One commit) xs ys (nested law (before + 1) rest more more' xs ys held.1 held'.1 refl behind))

-- ---- lengths

text-some : (before : ℕ) (x : Item) (xs : List Item) → 4 ≤ length (items_text before (x ∷ xs))
text-some before (One commit) xs =
    omega (
      arith,
      record_of-length (before + 1) commit,
      length-append (record_of (before + 1) commit) (items_text (before + 1) xs),
    )
text-some before Mark xs = omega (arith, length-append mark (items_text before xs))

pub text-longer : (xs ys : List Item) → IsBeginning xs ys → length (items_text 0 xs) ≤ length (items_text 0 ys)
text-longer xs ys front =
    omega (
      arith,
      ap (λ (zs : List Item). length (items_text 0 zs)) front.1,
      ap length (text-append 0 xs front.0),
      length-append (items_text 0 xs) (items_text (0 + length (commits_of xs)) front.0),
    )

-- a beginning whose text is no shorter is the whole
pub same-items : (xs ys : List Item) → IsBeginning xs ys → length (items_text 0 ys) ≤ length (items_text 0 xs) → xs ≡ ys
same-items xs ys front few = by front.0 front.1
  where
    by : (more : List Item) → ys ≡ xs ++ more → xs ≡ ys
    by [] e = sym (append-nil xs) ∙ sym e
    by (y ∷ more) e =
        absurd (omega (
          arith,
          few,
          ap (λ (zs : List Item). length (items_text 0 zs)) e,
          ap length (text-append 0 xs (y ∷ more)),
          length-append (items_text 0 xs) (items_text (0 + length (commits_of xs)) (y ∷ more)),
          text-some (0 + length (commits_of xs)) y more,
        ))

-- ---- marks

marks-append : (xs ys : List Item) → marks (xs ++ ys) ≡ marks xs + marks ys
marks-append [] ys = omega arith
marks-append (One commit ∷ xs) ys = marks-append xs ys
marks-append (Mark ∷ xs) ys = omega (arith, marks-append xs ys)

marks-ones : (commits : List Commit) → marks (map One commits) ≡ 0
marks-ones [] = refl
marks-ones (commit ∷ commits) = marks-ones commits

pub marks-new : (commits : List Commit) → marks (items_of New commits) ≡ 0
marks-new = marks-ones

pub marks-old : (commits : List Commit) → marks (items_of Old commits) ≡ 0
marks-old = marks-ones

pub marks-marked : (count : ℕ) (commits : List Commit) → marks (items_of (Marked count) commits) ≡ 1
marks-marked count commits =
    omega (
      arith,
      marks-append (map One (take count commits)) (Mark ∷ map One (drop count commits)),
      marks-ones (take count commits),
      marks-ones (drop count commits),
    )

-- at most one mark
marks-few : (form : Form) (commits : List Commit) → marks (items_of form commits) ≤ 1
marks-few New commits = omega (arith, marks-new commits)
marks-few Old commits = omega (arith, marks-old commits)
marks-few (Marked count) commits = omega (arith, marks-marked count commits)

mark_at-front : (commits : List Commit) (items : List Item) → mark_at (map One commits ++ Mark ∷ items) ≡ Some (length commits)
mark_at-front [] items = refl
mark_at-front (commit ∷ commits) items = rw (mark_at-front commits items) refl

some-count : (n m : ℕ) → Some n ≡ Some m → n ≡ m
some-count n m e = ap (λ (o : Option ℕ). count_in o) e
  where
    count_in : Option ℕ → ℕ
    count_in None = 0
    count_in (Some count) = count

-- the two versions in headers are apart
codes-apart : version_code New ≡ version_code Old → ⊥
codes-apart e = omega (arith, e)

-- the form of a text that goes on, by the version in its header: of version 2 from the beginning, or behind the same mark
pub same-form : (form other : Form) (commits others : List Commit) (more : List Item) → ¬ (form ≡ Old) → HasForm form commits
    → HasForm other others
    → version_code form ≡ version_code other → items_of other others ≡ items_of form commits ++ more → other ≡ form
same-form New New commits others more runs formed formed' code e = refl
same-form New Old commits others more runs formed formed' code e = absurd (codes-apart code)
same-form New (Marked count) commits others more runs formed formed' code e = absurd (codes-apart code)
same-form Old other commits others more runs formed formed' code e = absurd (runs refl)
same-form (Marked count) New commits others more runs formed formed' code e = absurd (codes-apart (sym code))
same-form (Marked count) Old commits others more runs formed formed' code e =
    absurd (omega (
      arith,
      marks-old others,
      ap marks e,
      marks-append (items_of (Marked count) commits) more,
      marks-marked count commits,
    ))
same-form (Marked count) (Marked other) commits others more runs formed formed' code e =
    let here = mark_at-front (take count commits) (map One (drop count commits) ++ more) in
    let there = mark_at-front (take other others) (map One (drop other others)) in
    let joined : items_of (Marked other) others ≡ map One (take count commits) ++ Mark ∷ (map One (drop count commits) ++ more) =
    e ∙ append_assoc (map One (take count commits)) (Mark ∷ map One (drop count commits)) more in
    let same : length (take other others) ≡ length (take count commits) =
    some-count (length (take other others)) (length (take count commits)) (sym there ∙ ap mark_at joined ∙ here) in
    ap Marked (omega (arith, same, length-take-le count commits formed.0, length-take-le other others formed'.0))

new-is : Old ≡ New → ⊥
new-is e = absurd cc

marked-is : (count : ℕ) → Marked count ≡ Old → ⊥
marked-is count e = absurd cc

-- the form and the commits of items, by the version in the header
pub same-text : (form other : Form) (commits others : List Commit) → HasForm form commits → HasForm other others
    → version_code form ≡ version_code other → items_of form commits ≡ items_of other others → (form ≡ other) × (commits ≡ others)
same-text form other commits others formed formed' code e = (
  forms form other formed formed' code e,
  sym (commits-of_items form commits) ∙ ap commits_of e ∙ commits-of_items other others,
)
  where
    forms : (one two : Form) → HasForm one commits → HasForm two others → version_code one ≡ version_code two
        → items_of one commits ≡ items_of two others → one ≡ two
    forms New two one_is two_is c same =
        sym (same-form New two commits others [] (λ old. new-is (sym old)) one_is two_is c
        (sym same ∙ sym (append-nil (items_of New commits))))
    forms (Marked count) two one_is two_is c same =
        sym (same-form (Marked count) two commits others [] (λ old. marked-is count old) one_is two_is c
        (sym same ∙ sym (append-nil (items_of (Marked count) commits))))
    forms Old New one_is two_is c same = absurd (codes-apart (sym c))
    forms Old Old one_is two_is c same = refl
    forms Old (Marked count) one_is two_is c same =
        absurd (omega (arith, marks-old commits, ap marks same, marks-marked count others))

-- ---- what goes on

-- a mark goes on only behind a text of version 1
pub mark-goes_on : (form other : Form) (commits others : List Commit) (more : List Item) → version_code form ≡ version_code other
    → items_of other others ≡ items_of form commits ++ Mark ∷ more → form ≡ Old
mark-goes_on New New commits others more code e =
    absurd (omega (arith, marks-new others, ap marks e, marks-append (items_of New commits) (Mark ∷ more)))
mark-goes_on New Old commits others more code e = absurd (codes-apart code)
mark-goes_on New (Marked count) commits others more code e = absurd (codes-apart code)
mark-goes_on Old other commits others more code e = refl
mark-goes_on (Marked count) other commits others more code e =
    absurd (omega (
      arith,
      marks-few other others,
      ap marks e,
      marks-append (items_of (Marked count) commits) (Mark ∷ more),
      marks-marked count commits,
    ))

old-ones : (commits : List Commit) (items : List Item) → list_all is_old commits ≡ true → OldBefore items
    → OldBefore (map One commits ++ items)
old-ones [] items old behind = behind
old-ones (commit ∷ commits) items old behind =
    let parts = and_parts (is_old commit) _ old in
    (parts.0, old-ones commits items parts.1 behind)

old-items : (form : Form) (commits : List Commit) → version_code Old ≡ version_code form → HasForm form commits
    → OldBefore (items_of form commits)
old-items New commits code formed = absurd (codes-apart (sym code))
old-items Old commits code formed = subst OldBefore (append-nil (map One commits)) (old-ones commits [] formed tt)
old-items (Marked count) commits code formed = old-ones (take count commits) (Mark ∷ map One (drop count commits)) formed.1 tt

old-next : (commits : List Commit) (commit : Commit) (items : List Item) → OldBefore (map One commits ++ One commit ∷ items)
    → is_old commit ≡ true
old-next [] commit items old = old.0
old-next (first ∷ commits) commit items old = old-next commits commit items old.1

-- a commit that goes on behind a text of version 1 is one of version 1
pub old-goes_on : (other : Form) (commits others : List Commit) (commit : Commit) (more : List Item) → version_code Old ≡ version_code other
    → HasForm other others → items_of other others ≡ items_of Old commits ++ One commit ∷ more → is_old commit ≡ true
old-goes_on other commits others commit more code formed e =
    old-next commits commit more (subst OldBefore e (old-items other others code formed))

-- the commits of a text that goes on with a commit
pub commits-go_on : (form other : Form) (commits others : List Commit) (commit : Commit) (more : List Item)
    → items_of other others ≡ items_of form commits ++ One commit ∷ more → others ≡ commits ++ commit ∷ commits_of more
commits-go_on form other commits others commit more e =
    sym (commits-of_items other others) ∙ ap commits_of e ∙ commits-append (items_of form commits) (One commit ∷ more)
    ∙ ap (λ (cs : List Commit). cs ++ commit ∷ commits_of more) (commits-of_items form commits)

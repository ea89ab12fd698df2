-- Which entries and commits are defined, one after the other, and which rows are there where they are.
pub use Rattle.rows.proofs.Presence.{is_there_after-push, is_there_after_commits-push, is_there_after_fit-push, is_there_after-more}
pub use Rattle.rows.proofs.Presence.{is_there_after_commits-more, is_there_after_fit-more, named, written, unnamed, unwritten}
use Rattle.std.proofs.Common.{◌≡◌, ◌≢◌, ℕ, suc, zero, ◌+◌, ◌<◌, ◌≤◌, Bool, true, false, cond, not, slice_get, ◌&&◌, ◌==◌, List, [], ◌∷◌}
use Rattle.std.proofs.Common.{◌++◌, length, get_or}
use Rattle.std.proofs.Common.{take, drop, Result, Ok, Err, refl, sym, ap, subst, add-zero, ◌∙◌, ◌⊎◌, inl, inr, arith}
use Rattle.std.specs.List.{list_any, AllByRecursion}
use Rattle.std.specs.Result.{is_ok}
use Rattle.std.proofs.lemmas.Bool.{or_from, and_from, or_parts, and_parts, false≢true, eqb-true, eq-eqb}
use Rattle.std.proofs.lemmas.List.{take_all, take_more, length-take-le, take-append-drop}
use Rattle.std.proofs.lemmas.Bool.Decides.{nat_tests}
use Rattle.rows.specs.declared.commit.Commit.{Commit}
use Rattle.rows.specs.declared.entry.Entry.{Entry}
use Rattle.rows.specs.Shape.{Shape}
use Rattle.rows.specs.declared.entry.Entry.TheVariants.{Insert, Patch, Delete, AddColumn}
use Rattle.rows.specs.Entries.{table_of, fitting, fitting_in, shape_after_one, shape_after}
use Rattle.rows.specs.Tables.{Tables, Refusal, opening, shape_in, is_row_at, is_fit, stands, refusal_of, made, change_where, apply_entry}
use Rattle.rows.specs.Tables.{apply_entries, and_then}
use Rattle.rows.specs.Commits.{apply_commits, tables_after, shape_after_commits, is_of, overlaps, touches, last_where}
use Rattle.rows.specs.Laws.{EntryTellsKinds, EntriesTellKinds, AppliedTellKinds, CommitsTellKinds, VersionsTellKinds, IsSymmetric}
use Rattle.rows.specs.ListLaws.{BeginningsAreDefined, EachIsDefined, FitInTurn, CommitsFitInTurn, EachFits, EachHasTable, OneMoreIsDefined}
use Rattle.rows.specs.ListLaws.{UndefinedStayUndefined}
use Rattle.rows.specs.ListLaws.{OneMoreEntryIsDefined, UntouchedStayDefined, PresenceIsTold}
use Rattle.rows.specs.Presence.{stands_for, is_there_after_one, is_there_after}
use Rattle.rows.specs.Inner.Presence.{is_there_after_commits, is_there_after_fit}
use Rattle.rows.proofs.Presence.{there, shape_in-opening, Turns, is_of_row, is_of-is, fitting-within}
use Rattle.rows.proofs.Widening.{is_own, added-alike, added-elsewhere, length-shape_after_one, length-shape_after}
use Rattle.rows.proofs.Presence.{stands-at, apply_entry-parts, Turns-change}
use Rattle.rows.proofs.Presence.{Turns-changes, Turns-commits, Turns-applied, and_then-parts}

-- two changes in a row, the second of them two again
and_then-assoc : (f g h : Tables → Result Tables Refusal) (first : Result Tables Refusal)
    → ((between : Tables) → h between ≡ and_then g (f between)) → and_then h first ≡ and_then g (and_then f first)
and_then-assoc f g h (Ok between) same = same between
and_then-assoc f g h (Err refusal) same = refl

-- entries behind others, and commits behind others
pub apply_entries-append : (tables : Tables) (before entries : List Entry)
    → apply_entries tables (before ++ entries) ≡ and_then (λ after. apply_entries after entries) (apply_entries tables before)
apply_entries-append tables [] entries = refl
apply_entries-append tables (entry ∷ before) entries =
    and_then-assoc _ _ _ (apply_entry tables entry) (λ between. apply_entries-append between before entries)

pub apply_commits-append : (tables : Tables) (before commits : List Commit)
    → apply_commits tables (before ++ commits) ≡ and_then (λ after. apply_commits after commits) (apply_commits tables before)
apply_commits-append tables [] commits = refl
apply_commits-append tables (commit ∷ before) commits =
    and_then-assoc _ _ _ (apply_entries tables commit.entries) (λ between. apply_commits-append between before commits)

-- a change that is not refused has tables after it
pub from_is_ok : (first : Result Tables Refusal) → is_ok first ≡ true → (after : Tables) × (first ≡ Ok after)
from_is_ok (Ok after) h = (after, refl)
from_is_ok (Err refusal) h = cc

-- the first of commits that are defined are defined too, and the others on what they leave
pub apply_commits-split : (shape : Shape) (commits : List Commit) (version : ℕ) (after : Tables)
    → apply_commits (opening shape) commits ≡ Ok after
    → (apply_commits (opening shape) (take version commits) ≡ Ok (tables_after shape commits version))
    × (apply_commits (tables_after shape commits version) (drop version commits) ≡ Ok after)
apply_commits-split shape commits version after h =
    let joined = apply_commits-append (opening shape) (take version commits) (drop version commits) in
    let whole = ap (apply_commits (opening shape)) (take-append-drop version commits) in
    let parts =
    and_then-parts (λ between. apply_commits between (drop version commits))
    (apply_commits (opening shape) (take version commits)) after (sym joined ∙ whole ∙ h) in
    rw parts.1 (refl, parts.2)

-- the tables at a version have the kinds that they were opened with
pub shape-at : VersionsTellKinds
shape-at shape commits version h =
    let all = from_is_ok _ h in
    let split = apply_commits-split shape commits version all.0 all.1 in
    (Turns-commits (opening shape) (tables_after shape commits version) (take version commits) split.0).kinds
    ∙ ap (λ shape. shape_after_commits shape (take version commits)) (shape_in-opening shape)

-- entries that are defined fit, so what those that fit leave is what all leave
pub is_there_after_fit-defined : (tables : Tables) (entries : List Entry) (table row : ℕ) (was : Bool)
    → is_ok (apply_entries tables entries) ≡ true
    → is_there_after_fit (shape_in tables) table row entries was ≡ is_there_after table row entries was
is_there_after_fit-defined tables [] table row was h = refl
is_there_after_fit-defined tables (entry ∷ entries) table row was h =
    let all = from_is_ok _ h in
    let parts = and_then-parts _ (apply_entry tables entry) all.0 all.1 in
    let first = apply_entry-parts tables parts.0 entry parts.1 in
    let turns = Turns-change tables parts.0 entry parts.1 in
    ap (λ fits. is_there_after_fit (shape_after_one (shape_in tables) entry) table row entries
    (cond fits (is_there_after_one table row entry was) was)) first.0
    ∙ ap (λ shape. is_there_after_fit shape table row entries (is_there_after_one table row entry was)) (sym turns.kinds)
    ∙ is_there_after_fit-defined parts.0 entries table row (is_there_after_one table row entry was) (ap is_ok parts.2)

-- an entry is defined where it fits and its row stands as it needs it
defined-change : (tables : Tables) (entry : Entry) → is_ok (apply_entry tables entry) ≡ (is_fit tables entry && stands tables entry)
defined-change tables entry = tested (is_fit tables entry) (stands tables entry)
  where
    tested : (fits right : Bool) → is_ok (change_where fits right (refusal_of entry) (made tables entry)) ≡ (fits && right)
    tested true true = refl
    tested true false = refl
    tested false right = refl

-- an entry behind others that are defined is defined where it fits, and its row stands as it needs it after those
defined-push : (tables : Tables) (before : List Entry) (entry : Entry) (table row : ℕ) → is_of table row entry ≡ true
    → is_ok (apply_entries tables before) ≡ true
    → is_ok (apply_entries tables (before ++ entry ∷ []))
    ≡ (is_ok (fitting (shape_after (shape_in tables) before) entry) && stands_for entry
    (is_there_after table row before (there tables table row)))
defined-push tables before entry table row of h =
    let middle = from_is_ok _ h in
    let turns = Turns-changes tables middle.0 before middle.1 in
    ap is_ok (apply_entries-append tables before (entry ∷ []))
    ∙ ap (λ first. is_ok (and_then (λ after. apply_entries after (entry ∷ [])) first)) middle.1
    ∙ alone (apply_entry middle.0 entry)
    ∙ defined-change middle.0 entry
    ∙ ap (λ b. is_fit middle.0 entry && b) (stands-at middle.0 entry table row of)
    ∙ ap (λ shape. is_ok (fitting shape entry) && stands_for entry (there middle.0 table row)) turns.kinds
    ∙ ap (λ b. is_ok (fitting (shape_after (shape_in tables) before) entry) && stands_for entry b) (turns.rows table row)
  where
    alone : (first : Result Tables Refusal) → is_ok (and_then (λ after. Ok after) first) ≡ is_ok first
    alone (Ok after) = refl
    alone (Err refusal) = refl

-- the same on the rows at a version
pub defined_behind : OneMoreEntryIsDefined
defined_behind shape commits version before entry table row of h =
    defined-push (tables_after shape commits version) before entry table row of h

-- the first of entries that are defined are defined too
pub defined_before : UndefinedStayUndefined
defined_before tables before entries h = ap is_ok (apply_entries-append tables before entries) ∙ refused (apply_entries tables before) h
  where
    refused : (first : Result Tables Refusal) → is_ok first ≡ false → is_ok (and_then (λ after. apply_entries after entries) first) ≡ false
    refused (Ok after) h = cc
    refused (Err refusal) h = refl

-- whether two shapes have the same kinds in a table, once an entry has made of them what it makes
shape-one : (shape other : Shape) (entry : Entry) (t : ℕ) → slice_get other t ≡ slice_get shape t
    → slice_get (shape_after_one other entry) t ≡ slice_get (shape_after_one shape entry) t
shape-one shape other (Insert table row bytes) t e = e
shape-one shape other (Patch table row offset bytes) t e = e
shape-one shape other (Delete table row) t e = e
shape-one shape other (AddColumn table default) t e = added-alike shape other table default t e

-- two databases that have the same of the tables and rows of these entries
record HasSame (tables others : Tables) (entry : Entry) : Type 0 where
  kinds : slice_get (shape_in others) (table_of entry) ≡ slice_get (shape_in tables) (table_of entry)
  rows : (t r : ℕ) → is_of t r entry ≡ true → there others t r ≡ there tables t r

abbrev SameRows : Tables → Tables → List Entry → Type 0
SameRows tables others [] = Unit {0}
SameRows tables others (entry ∷ entries) = HasSame tables others entry × SameRows tables others entries

SameRows-turns : (tables others tables' others' : Tables) (by : Entry) (turned : ℕ → ℕ → Bool → Bool) (entries : List Entry)
    → Turns tables tables' (λ shape. shape_after_one shape by) turned → Turns others others' (λ shape. shape_after_one shape by) turned
    → SameRows tables others entries → SameRows tables' others' entries
SameRows-turns tables others tables' others' by turned [] x y same = tt
SameRows-turns tables others tables' others' by turned (entry ∷ entries) x y same = (
  record {
    kinds =
        ap (λ shape. slice_get shape (table_of entry)) y.kinds
        ∙ shape-one (shape_in tables) (shape_in others) by (table_of entry) same.0.kinds
        ∙ ap (λ shape. slice_get shape (table_of entry)) (sym x.kinds);
    rows = λ t r of. y.rows t r ∙ ap (turned t r) (same.0.rows t r of) ∙ sym (x.rows t r);
  },
  SameRows-turns tables others tables' others' by turned entries x y same.1,
)

-- whether the row of an entry stands as the entry needs it is the same in both
stands-same : (tables others : Tables) (entry : Entry) → HasSame tables others entry → stands others entry ≡ stands tables entry
stands-same tables others (Insert table row bytes) same = ap not (same.rows table row.0 (is_own table row.0))
stands-same tables others (Patch table row offset bytes) same = same.rows table row.0 (is_own table row.0)
stands-same tables others (Delete table row) same = same.rows table row.0 (is_own table row.0)
stands-same tables others (AddColumn table default) same = refl

-- entries that are defined on one are defined on the other
defined-elsewhere : (tables others after : Tables) (entries : List Entry)
    → SameRows tables others entries → apply_entries tables entries ≡ Ok after → is_ok (apply_entries others entries) ≡ true
defined-elsewhere tables others after [] same h = refl
defined-elsewhere tables others after (entry ∷ entries) same h =
    let parts = and_then-parts _ (apply_entry tables entry) after h in
    let first = apply_entry-parts tables parts.0 entry parts.1 in
    let fits : is_fit others entry ≡ true = ap (λ kinds. is_ok (fitting_in kinds entry)) same.0.kinds ∙ first.0 in
    let other =
    from_is_ok (apply_entry others entry)
    (defined-change others entry ∙ and_from _ _ fits (stands-same tables others entry same.0 ∙ first.1)) in
    let turns = Turns-change tables parts.0 entry parts.1 in
    let turns' = Turns-change others other.0 entry other.1 in
    rw other.1 (defined-elsewhere parts.0 other.0 after entries
    (SameRows-turns tables others parts.0 other.0 entry _ entries turns turns' same.1) parts.2)

-- the later of two numbers of commits, each 0 where there is none
abbrev later_of : ℕ → ℕ → ℕ
later_of first last = cond (last == 0) first last

later-pushed : (a b n : ℕ) (t : Bool) → later_of a (cond t (n + 1) b) ≡ cond t (n + 1) (later_of a b)
later-pushed a b n true = grind (arith, nat_tests)
later-pushed a b n false = refl

later-above : (before last : ℕ) (t : Bool) → (last ≡ 0) ⊎ (before + 1 < last) → (later_of (cond t (before + 1) 0) last ≡ 0)
    ⊎ (before < later_of (cond t (before + 1) 0) last)
later-above before last true (inl e) = inr (grind (arith, nat_tests))
later-above before last false (inl e) = inl (grind (arith, nat_tests))
later-above before last t (inr h) = inr (grind (arith, nat_tests))

later-none : (before last : ℕ) (t : Bool) → later_of (cond t (before + 1) 0) last ≡ 0 → (t ≡ false) × (last ≡ 0)
later-none before last true h = grind (arith, nat_tests)
later-none before last false h = (refl, grind (arith, nat_tests))

later-le : (first last version : ℕ) → later_of first last ≤ version → last ≤ version
later-le first last version h = grind (arith, nat_tests)

drop-nil : {X : Type 0} (n : ℕ) → drop {A = X} n [] ≡ []
drop-nil zero = refl
drop-nil (suc n) = refl

module _ (holds : Commit → Bool) where
  -- one more commit at the end: it is the last of which it holds, or the last before it is
  pub last_where-push : (before : ℕ) (commits : List Commit) (commit : Commit)
      → last_where holds before (commits ++ commit ∷ []) ≡ cond (holds commit) (before + length commits + 1)
      (last_where holds before commits)
  last_where-push before [] commit = ap (λ n. cond (holds commit) (n + 1) 0) (sym (add-zero before))
  last_where-push before (first ∷ commits) commit =
      let number = cond (holds first) (before + 1) 0 in
      let same : before + 1 + length commits ≡ before + suc (length commits) = omega arith in
      ap (later_of number) (last_where-push (before + 1) commits commit)
      ∙ later-pushed number (last_where holds (before + 1) commits) (before + 1 + length commits) (holds commit)
      ∙ ap (λ n. cond (holds commit) (n + 1) (last_where holds before (first ∷ commits))) same

  -- a walk over the commits, one step on
  pub last_where-more : (commits : List Commit) (i : ℕ) (commit : Commit) → i < length commits → commit ≡ get_or commits i commit
      → last_where holds 0 (take (i + 1) commits) ≡ cond (holds commit) (i + 1) (last_where holds 0 (take i commits))
  last_where-more commits i commit h e =
      let same : 0 + length (take i commits) ≡ i = omega (arith, length-take-le i commits (omega arith)) in
      ap (last_where holds 0) (take_more commits i commit h ∙ ap (λ c. take i commits ++ c ∷ []) (sym e))
      ∙ last_where-push 0 (take i commits) commit
      ∙ ap (λ n. cond (holds commit) (n + 1) (last_where holds 0 (take i commits))) same

  -- the last stands behind those before the list
  pub last_where-above : (before : ℕ) (commits : List Commit) → (last_where holds before commits ≡ 0)
      ⊎ (before < last_where holds before commits)
  last_where-above before [] = inl refl
  last_where-above before (commit ∷ commits) =
      later-above before (last_where holds (before + 1) commits) (holds commit) (last_where-above (before + 1) commits)

  -- where there is no last, it holds of none
  pub last_where-none : (before : ℕ) (commits : List Commit) → last_where holds before commits ≡ 0 → list_any holds commits ≡ false
  last_where-none before [] h = refl
  last_where-none before (commit ∷ commits) h =
      let parts = later-none before (last_where holds (before + 1) commits) (holds commit) h in
      or_from _ _ parts.0 (last_where-none (before + 1) commits parts.1)

  -- behind the last, it holds of none
  pub last_where-behind : (before count : ℕ) (commits : List Commit) → last_where holds before commits ≤ before + count
      → list_any holds (drop count commits) ≡ false
  last_where-behind before count [] h = ap (list_any holds) (drop-nil count)
  last_where-behind before zero (commit ∷ commits) h =
      last_where-none before (commit ∷ commits)
      (elim (last_where-above before (commit ∷ commits)) [ inl e ↦ e | inr above ↦ absurd (omega arith) ])
  last_where-behind before (suc count) (commit ∷ commits) h =
      let below : last_where holds (before + 1) commits ≤ before + suc count =
      later-le (cond (holds commit) (before + 1) 0) (last_where holds (before + 1) commits) (before + suc count) h in
      last_where-behind (before + 1) count commits (omega arith)

-- an entry that does not conflict with one of a row is not of that row
overlaps-not : (entry other : Entry) (t r : ℕ) → overlaps entry other ≡ false → is_of t r entry ≡ true → is_of t r other ≡ false
overlaps-not (Insert table row bytes) other t r h of =
    let at = and_parts (table == t) (row.0 == r) of in
    ap (λ t. is_of t r other) (sym (eqb-true table t at.0)) ∙ ap (λ r. is_of table r other) (sym (eqb-true row.0 r at.1)) ∙ h
overlaps-not (Patch table row offset bytes) other t r h of =
    let at = and_parts (table == t) (row.0 == r) of in
    ap (λ t. is_of t r other) (sym (eqb-true table t at.0)) ∙ ap (λ r. is_of table r other) (sym (eqb-true row.0 r at.1)) ∙ h
overlaps-not (Delete table row) other t r h of =
    let at = and_parts (table == t) (row.0 == r) of in
    ap (λ t. is_of t r other) (sym (eqb-true table t at.0)) ∙ ap (λ r. is_of table r other) (sym (eqb-true row.0 r at.1)) ∙ h
overlaps-not (AddColumn table default) other t r h of =
    is_of-is t r other
    ∙ ap (λ b. b && is_of_row r other) (ap (λ t. table_of other == t) (sym (eqb-true table t of)) ∙ h)

-- an entry that does not conflict with another leaves the kinds of the other's table
overlaps-kinds : (entry other : Entry) (shape : Shape) → overlaps entry other ≡ false
    → slice_get (shape_after_one shape other) (table_of entry) ≡ slice_get shape (table_of entry)
overlaps-kinds entry (Insert table row bytes) shape h = refl
overlaps-kinds entry (Patch table row offset bytes) shape h = refl
overlaps-kinds entry (Delete table row) shape h = refl
overlaps-kinds entry (AddColumn table default) shape h = added-elsewhere shape table default (table_of entry) (apart entry h)
  where
    apart : (entry : Entry) → overlaps entry (AddColumn table default) ≡ false → table_of entry ≢ table
    apart (Insert t row bytes) h e = absurd (false≢true (sym h ∙ eq-eqb table t (sym e)))
    apart (Patch t row offset bytes) h e = absurd (false≢true (sym h ∙ eq-eqb table t (sym e)))
    apart (Delete t row) h e = absurd (false≢true (sym h ∙ eq-eqb table t (sym e)))
    apart (AddColumn t default) h e = absurd (false≢true (sym h ∙ eq-eqb table t (sym e)))

-- entries, and commits, that do not conflict with an entry of a row
none-of : (entry : Entry) (entries : List Entry) (t r : ℕ) → list_any (overlaps entry) entries ≡ false → is_of t r entry ≡ true
    → named entries t r ≡ false
none-of entry [] t r h of = refl
none-of entry (other ∷ entries) t r h of =
    let parts = or_parts (overlaps entry other) _ h in
    or_from _ _ (overlaps-not entry other t r parts.0 of) (none-of entry entries t r parts.1 of)

same-kinds : (entry : Entry) (entries : List Entry) (shape : Shape) → list_any (overlaps entry) entries ≡ false
    → slice_get (shape_after shape entries) (table_of entry) ≡ slice_get shape (table_of entry)
same-kinds entry [] shape h = refl
same-kinds entry (other ∷ entries) shape h =
    let parts = or_parts (overlaps entry other) _ h in
    same-kinds entry entries (shape_after_one shape other) parts.1 ∙ overlaps-kinds entry other shape parts.0

abbrev clear_of : Entry → List Commit → Bool
clear_of entry commits = list_any (λ commit. list_any (overlaps entry) commit.entries) commits

none-written : (entry : Entry) (commits : List Commit) (t r : ℕ) → clear_of entry commits ≡ false → is_of t r entry ≡ true
    → written commits t r ≡ false
none-written entry [] t r h of = refl
none-written entry (commit ∷ commits) t r h of =
    let parts = or_parts (list_any (overlaps entry) commit.entries) _ h in
    or_from _ _ (none-of entry commit.entries t r parts.0 of) (none-written entry commits t r parts.1 of)

same-kinds-commits : (entry : Entry) (commits : List Commit) (shape : Shape) → clear_of entry commits ≡ false
    → slice_get (shape_after_commits shape commits) (table_of entry) ≡ slice_get shape (table_of entry)
same-kinds-commits entry [] shape h = refl
same-kinds-commits entry (commit ∷ commits) shape h =
    let parts = or_parts (list_any (overlaps entry) commit.entries) _ h in
    same-kinds-commits entry commits (shape_after shape commit.entries) parts.1 ∙ same-kinds entry commit.entries shape parts.0

-- commits that touch none of these entries conflict with none of them
touches-split : (entry : Entry) (entries : List Entry) (commits : List Commit) → list_any (touches (entry ∷ entries)) commits ≡ false
    → (clear_of entry commits ≡ false) × (list_any (touches entries) commits ≡ false)
touches-split entry entries [] h = (refl, refl)
touches-split entry entries (commit ∷ commits) h =
    let parts = or_parts (touches (entry ∷ entries) commit) _ h in
    let here = or_parts (list_any (overlaps entry) commit.entries) (touches entries commit) parts.0 in
    let others = touches-split entry entries commits parts.1 in
    (or_from _ _ here.0 others.0, or_from _ _ here.1 others.1)

SameRows-untouched : (tables others : Tables) (entries : List Entry) (commits : List Commit)
    → Turns tables others (λ shape. shape_after_commits shape commits) (λ t r. is_there_after_commits t r commits)
    → list_any (touches entries) commits ≡ false
    → SameRows tables others entries
SameRows-untouched tables others [] commits turns h = tt
SameRows-untouched tables others (entry ∷ entries) commits turns h =
    let parts = touches-split entry entries commits h in (
      record {
        kinds =
            ap (λ shape. slice_get shape (table_of entry)) turns.kinds
            ∙ same-kinds-commits entry commits (shape_in tables) parts.0;
        rows = λ t r of. turns.rows t r ∙ unwritten t r commits (there tables t r) (none-written entry commits t r parts.0 of);
      },
      SameRows-untouched tables others entries commits turns parts.1,
    )

-- at the newest version all commits have been taken
newest : (shape : Shape) (commits : List Commit) (after : Tables) → apply_commits (opening shape) commits ≡ Ok after
    → tables_after shape commits (length commits) ≡ after
newest shape commits after h = rw (take_all (length commits) commits (omega arith), h)

-- entries that are defined at a version, and of rows that no later commit touches, are defined at the newest
pub still_defined : UntouchedStayDefined
still_defined shape commits version entries legal last defined =
    let all = from_is_ok _ legal in
    let split = apply_commits-split shape commits version all.0 all.1 in
    let turns = Turns-commits (tables_after shape commits version) all.0 (drop version commits) split.1 in
    let rows =
    SameRows-untouched (tables_after shape commits version) all.0 entries (drop version commits) turns
    (last_where-behind (touches entries) 0 version commits (omega arith)) in
    let made = from_is_ok _ defined in
    rw (newest shape commits all.0 all.1)
    (defined-elsewhere (tables_after shape commits version) all.0 made.0 entries rows made.1)

-- a commit that is defined at the newest version goes behind the others
pub apply_commits-push : OneMoreIsDefined
apply_commits-push shape commits commit legal defined =
    let all = from_is_ok _ legal in
    let made = from_is_ok (apply_entries all.0 commit.entries) (rw (newest shape commits all.0 all.1) at defined) in
    rw (apply_commits-append (opening shape) commits (commit ∷ []), all.1, made.1)

-- commits that are defined are defined up to each version, and each behind those before it
pub apply_commits-first : BeginningsAreDefined
apply_commits-first shape commits version h =
    let all = from_is_ok _ h in
    (apply_commits-split shape commits version all.0 all.1).0

pub each-defined : EachIsDefined
each-defined shape before commit behind h =
    let all = from_is_ok _ h in
    let parts =
    and_then-parts (λ between. apply_commits between (commit ∷ behind)) (apply_commits (opening shape) before) all.0
    (sym (apply_commits-append (opening shape) before (commit ∷ behind)) ∙ all.1) in
    let here = and_then-parts (λ after. apply_commits after behind) (apply_entries parts.0 commit.entries) all.0 parts.2 in
    rw (newest shape before parts.0 parts.1) (ap is_ok here.1)

-- entries that are defined fit where they stand, and so do those of commits
entries-fit : (tables after : Tables) (entries : List Entry) → apply_entries tables entries ≡ Ok after → FitInTurn (shape_in tables) entries
entries-fit tables after [] h = tt
entries-fit tables after (entry ∷ entries) h =
    let parts = and_then-parts _ (apply_entry tables entry) after h in
    let first = apply_entry-parts tables parts.0 entry parts.1 in
    let turns = Turns-change tables parts.0 entry parts.1 in
    (first.0, subst (λ shape. FitInTurn shape entries) turns.kinds (entries-fit parts.0 after entries parts.2))

commits-fit : (tables after : Tables) (commits : List Commit) → apply_commits tables commits ≡ Ok after
    → CommitsFitInTurn (shape_in tables) commits
commits-fit tables after [] h = tt
commits-fit tables after (commit ∷ commits) h =
    let parts = and_then-parts _ (apply_entries tables commit.entries) after h in
    let turns = Turns-changes tables parts.0 commit.entries parts.1 in (
      entries-fit tables parts.0 commit.entries parts.1,
      subst (λ shape. CommitsFitInTurn shape commits) turns.kinds (commits-fit parts.0 after commits parts.2),
    )

pub each-fits : EachFits
each-fits shape commits h =
    let all = from_is_ok _ h in
    subst (λ shape. CommitsFitInTurn shape commits) (shape_in-opening shape) (commits-fit (opening shape) all.0 commits all.1)

-- the tables of entries that are defined are there, and so are those of commits
entries-have-table : (tables after : Tables) (entries : List Entry) (count : ℕ) → length (shape_in tables) ≡ count
    → apply_entries tables entries ≡ Ok after → AllByRecursion (λ entry. table_of entry < count) entries
entries-have-table tables after [] count same h = tt
entries-have-table tables after (entry ∷ entries) count same h =
    let parts = and_then-parts _ (apply_entry tables entry) after h in
    let first = apply_entry-parts tables parts.0 entry parts.1 in
    let turns = Turns-change tables parts.0 entry parts.1 in (
      omega (arith, fitting-within (shape_in tables) entry first.0, same),
      entries-have-table parts.0 after entries count
          (ap length turns.kinds ∙ length-shape_after_one (shape_in tables) entry ∙ same) parts.2,
    )

commits-have-table : (tables after : Tables) (commits : List Commit) (count : ℕ) → length (shape_in tables) ≡ count
    → apply_commits tables commits ≡ Ok after
    → AllByRecursion (λ commit. AllByRecursion (λ entry. table_of entry < count) commit.entries) commits
commits-have-table tables after [] count same h = tt
commits-have-table tables after (commit ∷ commits) count same h =
    let parts = and_then-parts _ (apply_entries tables commit.entries) after h in
    let turns = Turns-changes tables parts.0 commit.entries parts.1 in (
      entries-have-table tables parts.0 commit.entries count same parts.1,
      commits-have-table parts.0 after commits count
          (ap length turns.kinds ∙ length-shape_after (shape_in tables) commit.entries ∙ same) parts.2,
    )

pub each-has-table : EachHasTable
each-has-table shape commits h =
    let all = from_is_ok _ h in
    commits-have-table (opening shape) all.0 commits (length shape) (ap length (shape_in-opening shape)) all.1

-- which rows are there after entries that are defined
pub presence-told : PresenceIsTold
presence-told tables entries table row h =
    (Turns-applied tables entries).rows table row
    ∙ is_there_after_fit-defined tables entries table row (is_row_at tables table row) h

-- the kinds after entries and commits
pub entry-kinds : EntryTellsKinds
entry-kinds tables after entry h = (Turns-change tables after entry h).kinds

pub entries-kinds : EntriesTellKinds
entries-kinds tables after entries h = (Turns-changes tables after entries h).kinds

pub applied-kinds : AppliedTellKinds
applied-kinds tables entries = (Turns-applied tables entries).kinds

pub commits-kinds : CommitsTellKinds
commits-kinds tables after commits h = (Turns-commits tables after commits h).kinds

-- two entries conflict in either order
overlaps-of : (entry : Entry) (table row : ℕ) → ((table_of entry == table) && is_of_row row entry)
    ≡ ((table == table_of entry) && is_of_row row entry)
overlaps-of entry table row = grind (arith, nat_tests)

pub overlaps-symmetric : IsSymmetric
overlaps-symmetric (Insert t r b) (Insert t' r' b') = grind (arith, nat_tests)
overlaps-symmetric (Insert t r b) (Patch t' r' o' b') = grind (arith, nat_tests)
overlaps-symmetric (Insert t r b) (Delete t' r') = grind (arith, nat_tests)
overlaps-symmetric (Insert t r b) (AddColumn t' d') = grind (arith, nat_tests)
overlaps-symmetric (Patch t r o b) (Insert t' r' b') = grind (arith, nat_tests)
overlaps-symmetric (Patch t r o b) (Patch t' r' o' b') = grind (arith, nat_tests)
overlaps-symmetric (Patch t r o b) (Delete t' r') = grind (arith, nat_tests)
overlaps-symmetric (Patch t r o b) (AddColumn t' d') = grind (arith, nat_tests)
overlaps-symmetric (Delete t r) (Insert t' r' b') = grind (arith, nat_tests)
overlaps-symmetric (Delete t r) (Patch t' r' o' b') = grind (arith, nat_tests)
overlaps-symmetric (Delete t r) (Delete t' r') = grind (arith, nat_tests)
overlaps-symmetric (Delete t r) (AddColumn t' d') = grind (arith, nat_tests)
overlaps-symmetric (AddColumn t d) (Insert t' r' b') = grind (arith, nat_tests)
overlaps-symmetric (AddColumn t d) (Patch t' r' o' b') = grind (arith, nat_tests)
overlaps-symmetric (AddColumn t d) (Delete t' r') = grind (arith, nat_tests)
overlaps-symmetric (AddColumn t d) (AddColumn t' d') = grind (arith, nat_tests)

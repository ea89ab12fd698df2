-- The last commit that touches a row of some entries is the greatest of the newest commits of their rows.
use Rattle.std.proofs.Common.{◌≡◌, ℕ, ◌+◌, ◌<◌, max, Bool, true, false, cond, ◌||◌, ◌&&◌, ◌==◌, List, [], ◌∷◌, ◌++◌, length, get_or, take}
use Rattle.std.proofs.Common.{None, Some, refl}
use Rattle.std.proofs.Common.{sym, ap, ◌∙◌, ◌⊎◌, inl, inr, arith}
use Rattle.std.proofs.lemmas.Bool.Decides.{nat_tests}
use Rattle.std.proofs.lemmas.List.{take_more}
use Rattle.std.proofs.lemmas.List.Folds.{list_any-append}
use Rattle.std.specs.List.{list_any}
use Rattle.rows.specs.declared.commit.Commit.{Commit}
use Rattle.rows.specs.declared.entry.Entry.{Entry}
use Rattle.rows.specs.declared.entry.Entry.TheVariants.{Insert, Patch, Delete, AddColumn}
use Rattle.rows.specs.declared.row_id.RowId.{RowId}
use Rattle.rows.specs.Entries.{table_of, row_of}
use Rattle.rows.specs.Commits.{is_of, overlaps, touches, last_where, last_touching}
use Rattle.std.proofs.lemmas.Option.{same_Some}
use Rattle.mvcc.specs.Newest.{writes, newest_of, newest_in, adds_to, widens, newest_added}
use Rattle.mvcc.specs.Inner.Keys.{names}
use Rattle.mvcc.specs.Inner.Newest.{names_in, newest_naming, newest_for}

-- the later of two numbers of commits, each 0 where there is none
abbrev later_of : ℕ → ℕ → ℕ
later_of first last = cond (last == 0) first last

later-both : (x y : Bool) (n l m : ℕ) → (l ≡ 0) ⊎ (n < l) → (m ≡ 0) ⊎ (n < m)
    → later_of (cond (x || y) n 0) (max l m) ≡ max (later_of (cond x n 0) l) (later_of (cond y n 0) m)
later-both true true n l m (inl a) (inl b) = grind (arith, nat_tests)
later-both true false n l m (inl a) (inl b) = grind (arith, nat_tests)
later-both false true n l m (inl a) (inl b) = grind (arith, nat_tests)
later-both false false n l m (inl a) (inl b) = grind (arith, nat_tests)
later-both x y n l m (inl a) (inr b) = grind (arith, nat_tests)
later-both x y n l m (inr a) (inl b) = grind (arith, nat_tests)
later-both x y n l m (inr a) (inr b) = grind (arith, nat_tests)

-- the last stands behind those before the list
later-above : (before last : ℕ) (t : Bool) → (last ≡ 0) ⊎ (before + 1 < last) → (later_of (cond t (before + 1) 0) last ≡ 0)
    ⊎ (before < later_of (cond t (before + 1) 0) last)
later-above before last true (inl e) = inr (grind (arith, nat_tests))
later-above before last false (inl e) = inl (grind (arith, nat_tests))
later-above before last t (inr h) = inr (grind (arith, nat_tests))

last_where-above : (holds : Commit → Bool) (before : ℕ) (commits : List Commit) → (last_where holds before commits ≡ 0)
    ⊎ (before < last_where holds before commits)
last_where-above holds before [] = inl refl
last_where-above holds before (commit ∷ commits) =
    later-above before (last_where holds (before + 1) commits) (holds commit) (last_where-above holds (before + 1) commits)

-- the last of which one of two things holds
pub last_where-or : (either one other : Commit → Bool) (before : ℕ) (commits : List Commit)
    → ((commit : Commit) → either commit ≡ (one commit || other commit))
    → last_where either before commits ≡ max (last_where one before commits) (last_where other before commits)
last_where-or either one other before [] h = refl
last_where-or either one other before (commit ∷ commits) h =
    ap (λ t. later_of (cond t (before + 1) 0) (last_where either (before + 1) commits)) (h commit)
    ∙ ap (later_of (cond (one commit || other commit) (before + 1) 0)) (last_where-or either one other (before + 1) commits h)
    ∙ later-both (one commit) (other commit) (before + 1) (last_where one (before + 1) commits) (last_where other (before + 1) commits)
    (last_where-above one (before + 1) commits) (last_where-above other (before + 1) commits)

or-false : (b : Bool) → b ≡ (b || false)
or-false true = refl
or-false false = refl

-- a row is touched by an entry of it alone, or by a column that is added
named-or-added : (table row : ℕ) (entry : Entry) → is_of table row entry ≡ (names table row entry || adds_to table entry)
named-or-added table row (Insert t r put) = or-false ((t == table) && (r.0 == row))
named-or-added table row (Patch t r offset put) = or-false ((t == table) && (r.0 == row))
named-or-added table row (Delete t r) = or-false ((t == table) && (r.0 == row))
named-or-added table row (AddColumn t default) = refl

any-or : (either one other : Entry → Bool) (entries : List Entry) → ((entry : Entry) → either entry ≡ (one entry || other entry))
    → list_any either entries ≡ (list_any one entries || list_any other entries)
any-or either one other [] h = refl
any-or either one other (entry ∷ entries) h = rw (h entry, any-or either one other entries h) (turned (one entry) (other entry) _ _)
  where
    turned : (a b c d : Bool) → ((a || b) || (c || d)) ≡ ((a || c) || (b || d))
    turned true true true d = refl
    turned true true false d = refl
    turned true false true d = refl
    turned true false false d = refl
    turned false true true d = refl
    turned false true false d = refl
    turned false false true d = refl
    turned false false false d = refl

-- so its last commit is the later of that of its chain and that of the table's columns
pub newest-later : (table row : ℕ) (commits : List Commit)
    → newest_of table row commits ≡ max (newest_naming table row commits) (newest_added table commits)
newest-later table row commits =
    last_where-or (writes table row) (names_in table row) (widens table) 0 commits
    (λ commit. any-or (is_of table row) (names table row) (adds_to table) commit.entries (named-or-added table row))

touches-push : (entries : List Entry) (entry : Entry) (commit : Commit)
    → touches (entries ++ entry ∷ []) commit ≡ (touches entries commit || list_any (overlaps entry) commit.entries)
touches-push entries entry commit =
    list_any-append (λ e. list_any (overlaps e) commit.entries) entries (entry ∷ [])
    ∙ ap (λ b. touches entries commit || b) (sym (or-false (list_any (overlaps entry) commit.entries)))

overlapping : (entry : Entry) (commits : List Commit)
    → last_where (λ commit. list_any (overlaps entry) commit.entries) 0 commits ≡ newest_for entry commits
overlapping (Insert table row bytes) commits = refl
overlapping (Patch table row offset bytes) commits = refl
overlapping (Delete table row) commits = refl
overlapping (AddColumn table default) commits = refl

-- a walk over the entries, one step on
pub last_touching-next : (entries : List Entry) (commits : List Commit) (i : ℕ) (entry : Entry) → i < length entries
    → entry ≡ get_or entries i entry
    → last_touching (take (i + 1) entries) 0 commits ≡ max (last_touching (take i entries) 0 commits) (newest_for entry commits)
last_touching-next entries commits i entry h e =
    ap (λ entries. last_touching entries 0 commits) (take_more entries i entry h ∙ ap (λ x. take i entries ++ x ∷ []) (sym e))
    ∙ last_where-or (touches (take i entries ++ entry ∷ [])) (touches (take i entries)) (λ commit. list_any (overlaps entry) commit.entries)
    0 commits (touches-push (take i entries) entry)
    ∙ ap (max (last_touching (take i entries) 0 commits)) (overlapping entry commits)

-- the last commit that touches an entry of a row, and one that adds a column
pub newest_for-row : (entry : Entry) (id : RowId) (commits : List Commit) → row_of entry ≡ Some id
    → newest_for entry commits ≡ newest_of (table_of entry) id.0 commits
newest_for-row (Insert table row bytes) id commits e = ap (λ (n : RowId). newest_of table n.0 commits) (same_Some row id e)
newest_for-row (Patch table row offset bytes) id commits e = ap (λ (n : RowId). newest_of table n.0 commits) (same_Some row id e)
newest_for-row (Delete table row) id commits e = ap (λ (n : RowId). newest_of table n.0 commits) (same_Some row id e)
newest_for-row (AddColumn table default) id commits e = absurd cc

pub newest_for-table : (entry : Entry) (commits : List Commit) → row_of entry ≡ None
    → newest_for entry commits ≡ newest_in (table_of entry) commits
newest_for-table (Insert table row bytes) commits e = absurd cc
newest_for-table (Patch table row offset bytes) commits e = absurd cc
newest_for-table (Delete table row) commits e = absurd cc
newest_for-table (AddColumn table default) commits e = refl

-- no entries, no commit that touches their rows
pub last_touching-none : (before : ℕ) (commits : List Commit) → last_touching [] before commits ≡ 0
last_touching-none before [] = refl
last_touching-none before (commit ∷ commits) = ap (λ n. cond (n == 0) 0 n) (last_touching-none (before + 1) commits)

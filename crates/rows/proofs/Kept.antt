-- What every entry keeps of tables holds of them at each version; and what holds of each table, once one was replaced.
use Rattle.std.proofs.Common.{◌≡◌, ◌≢◌, ℕ, zero, suc, ◌<◌, List, [], ◌∷◌, length, take, Result, Ok, Err, refl, sym, ap, subst}
use Rattle.std.proofs.Common.{inl, inr, arith}
use Rattle.std.specs.List.{slice_set, AllByRecursion}
use Rattle.std.proofs.lemmas.Bool.{cases_eq}
use Rattle.rows.specs.declared.commit.Commit.{Commit}
use Rattle.rows.specs.declared.entry.Entry.{Entry}
use Rattle.rows.specs.declared.kind.Kind.{Kind}
use Rattle.rows.specs.Commits.{apply_commits, tables_after}
use Rattle.rows.specs.Shape.{Shape}
use Rattle.rows.specs.Tables.{Rows, Table, Tables, Refusal, opening, kinds_of, rows_of, apply_entry, apply_entries}
use Rattle.rows.proofs.Presence.{rows_of-set_same, rows_of-set_other, and_then-parts}

-- ---- at each version

module _ (C : Entry → Type 0) where
  -- each entry of these commits is such an entry
  abbrev pub Hold : List Commit → Type 0
  Hold commits = AllByRecursion (λ (commit : Commit). AllByRecursion C commit.entries) commits

  hold-take : (n : ℕ) (commits : List Commit) → Hold commits → Hold (take n commits)
  hold-take zero [] h = tt
  hold-take zero (commit ∷ commits) h = tt
  hold-take (suc n) [] h = tt
  hold-take (suc n) (commit ∷ commits) h = (h.0, hold-take n commits h.1)

  module _ (Q : Tables → Type 0)
      (one : (tables after : Tables) (entry : Entry) → C entry → apply_entry tables entry ≡ Ok after → Q tables → Q after) where
    entries-keep : (tables after : Tables) (entries : List Entry) → AllByRecursion C entries → apply_entries tables entries ≡ Ok after
        → Q tables → Q after
    entries-keep tables after [] hold h q =
        let same : tables ≡ after = cc in
        subst Q same q
    entries-keep tables after (entry ∷ entries) hold h q =
        let parts = and_then-parts _ (apply_entry tables entry) after h in
        entries-keep parts.0 after entries hold.1 parts.2 (one tables parts.0 entry hold.0 parts.1 q)

    commits-keep : (tables after : Tables) (commits : List Commit) → Hold commits → apply_commits tables commits ≡ Ok after → Q tables
        → Q after
    commits-keep tables after [] hold h q =
        let same : tables ≡ after = cc in
        subst Q same q
    commits-keep tables after (commit ∷ commits) hold h q =
        let parts = and_then-parts _ (apply_entries tables commit.entries) after h in
        commits-keep parts.0 after commits hold.1 parts.2 (entries-keep tables parts.0 commit.entries hold.0 parts.1 q)

    pub version-keeps : (shape : Shape) (commits : List Commit) (version : ℕ) → Hold commits → Q (opening shape)
        → Q (tables_after shape commits version)
    version-keeps shape commits version hold q = by (apply_commits (opening shape) (take version commits)) refl
      where
        by : (made : Result Tables Refusal) → apply_commits (opening shape) (take version commits) ≡ made
            → Q (tables_after shape commits version)
        by (Ok after) e = rw e (commits-keep (opening shape) after (take version commits) (hold-take version commits hold) e q)
        by (Err refusal) e = rw e q

-- where nothing is asked of an entry
each-any : (entries : List Entry) → AllByRecursion (λ (entry : Entry). Unit {0}) entries
each-any [] = tt
each-any (entry ∷ entries) = (tt, each-any entries)

pub hold-any : (commits : List Commit) → Hold (λ (entry : Entry). Unit {0}) commits
hold-any [] = tt
hold-any (commit ∷ commits) = (each-any commit.entries, hold-any commits)

-- ---- a table that was replaced

kinds_of-set_same : (tables : Tables) (table : ℕ) (new : Table) → table < length tables
    → kinds_of (slice_set tables table new) table ≡ new.kinds
kinds_of-set_same [] table new h = absurd (omega arith)
kinds_of-set_same (first ∷ tables) zero new h = refl
kinds_of-set_same (first ∷ tables) (suc table) new h = kinds_of-set_same tables table new (omega arith)

kinds_of-set_other : (tables : Tables) (table other : ℕ) (new : Table) → other ≢ table
    → kinds_of (slice_set tables table new) other ≡ kinds_of tables other
kinds_of-set_other [] table other new h = refl
kinds_of-set_other (first ∷ tables) zero zero new h = absurd (h refl)
kinds_of-set_other (first ∷ tables) zero (suc other) new h = refl
kinds_of-set_other (first ∷ tables) (suc table) zero new h = refl
kinds_of-set_other (first ∷ tables) (suc table) (suc other) new h = kinds_of-set_other tables table other new (λ e. h (ap suc e))

module _ (P : ℕ → List Kind → Rows → Type 0) where
  -- what holds of the columns and rows of each table
  abbrev pub EachTable : Tables → Type 0
  EachTable tables = (table : ℕ) → P table (kinds_of tables table) (rows_of tables table)

  -- holds once a table was replaced by one of which it holds
  pub placed : (tables : Tables) (table : ℕ) (new : Table) → table < length tables → EachTable tables → P table new.kinds new.rows
      → EachTable (slice_set tables table new)
  placed tables table new within each is other = elim (cases_eq other table) [
    | inl same ↦
        subst (λ (t : ℕ). P t (kinds_of (slice_set tables table new) t) (rows_of (slice_set tables table new) t)) (sym same)
        (subst (λ (kinds : List Kind). P table kinds (rows_of (slice_set tables table new) table))
        (sym (kinds_of-set_same tables table new within))
        (subst (P table new.kinds) (sym (rows_of-set_same tables table new within)) is))
    | inr apart ↦
        subst (λ (kinds : List Kind). P other kinds (rows_of (slice_set tables table new) other))
        (sym (kinds_of-set_other tables table other new apart))
        (subst (P other (kinds_of tables other)) (sym (rows_of-set_other tables table other new apart)) (each other))
  ]

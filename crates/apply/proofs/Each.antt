-- Commits that each partition applied by itself: all are applied, or one is refused, or memory was.
use Rattle.std.proofs.Common.{◌≡◌, ℕ, suc, zero, ◌+◌, ◌<◌, Bool, true, List, [], ◌∷◌, length, get_or, drop}
use Rattle.std.proofs.Common.{None, Some, Result, Ok, Err, nat_lt, refl, sym, ap, subst, ◌∙◌, arith}
use Rattle.std.specs.Result.{IsErr}
use Rattle.std.proofs.lemmas.List.{get_or-map, drop_more}
use Rattle.std.proofs.lemmas.List.Elements.{filter-append}
use Rattle.std.proofs.lemmas.List.Folds.{list_any_at}
use Rattle.rows.specs.declared.commit.Commit.{Commit}
use Rattle.rows.specs.Commits.{apply_commits}
use Rattle.rows.specs.Tables.{Tables, Refusal, apply_entries, and_then}
use Rattle.store.specs.Faults.{FailsAs, have_entries}
use Rattle.store.specs.declared.faults.ApplyFault.{ApplyFault}
use Rattle.store.specs.declared.faults.ApplyFault.TheVariants.{Inconsistent, Memory, Broken}
use Rattle.apply.specs.declared.partition.Partition.{Partition}
use Rattle.apply.specs.Inner.Ends.{EndsAs}
use Rattle.apply.specs.Inner.EntryLaws.{AreEntryLaws}
use Rattle.apply.specs.Partitions.{tables_in}
use Rattle.apply.specs.Inner.Gathered.{ArePartitions, is_in, entries_in, entries_of}
use Rattle.apply.specs.Inner.Views.{views}
use Rattle.apply.proofs.Splits.{partitions-fold, refused-fold, entries-append, commits-entries}
use Rattle.apply.proofs.Viewed.{views-length}

-- ---- one partition

-- a commit's own entries, and those of the commits behind it
own-append : (partitions partition : ℕ) (tables : Tables) (commit : Commit) (commits : List Commit)
    → apply_entries tables (entries_in partitions partition (entries_of (commit ∷ commits)))
    ≡ and_then (λ after. apply_entries after (entries_in partitions partition (entries_of commits)))
    (apply_entries tables (entries_in partitions partition commit.entries))
own-append partitions partition tables commit commits =
    ap (apply_entries tables) (filter-append (is_in partitions partition) commit.entries (entries_of commits))
    ∙ entries-append tables (entries_in partitions partition commit.entries) (entries_in partitions partition (entries_of commits))

module _ (partitions partition : ℕ) (tables : Tables) (commits : List Commit) (i : ℕ) (commit : Commit) (lt : i < length commits)
    (is : commit ≡ get_or commits i commit) where
  own-next : apply_entries tables (entries_in partitions partition (entries_of (drop i commits)))
      ≡ and_then (λ after. apply_entries after (entries_in partitions partition (entries_of (drop (i + 1) commits))))
      (apply_entries tables (entries_in partitions partition commit.entries))
  own-next =
      ap (λ commits. apply_entries tables (entries_in partitions partition (entries_of commits)))
      (drop_more commits i commit lt ∙ ap (λ commit. commit ∷ drop (i + 1) commits) (sym is))
      ∙ own-append partitions partition tables commit (drop (i + 1) commits)

  pub own-step : (after : Tables) → apply_entries tables (entries_in partitions partition commit.entries) ≡ Ok after
      → apply_entries after (entries_in partitions partition (entries_of (drop (i + 1) commits)))
      ≡ apply_entries tables (entries_in partitions partition (entries_of (drop i commits)))
  own-step after h =
      sym (own-next ∙ ap (and_then (λ after. apply_entries after (entries_in partitions partition (entries_of (drop (i + 1) commits))))) h)

  -- where it fails at a commit it fails at all
  pub own-fails : (changes : Result Tables Refusal) (fault : ApplyFault)
      → apply_entries tables (entries_in partitions partition (entries_of (drop i commits))) ≡ changes
      → FailsAs true (nat_lt 0 (length commit.entries)) (apply_entries tables (entries_in partitions partition commit.entries)) fault
      → FailsAs true (have_entries commits) changes fault
  own-fails changes Inconsistent all h =
      (refl, subst IsErr (sym own-next ∙ all) (stops (apply_entries tables (entries_in partitions partition commit.entries)) h.1))
    where
      stops : (first : Result Tables Refusal) → IsErr first
          → IsErr (and_then (λ after. apply_entries after (entries_in partitions partition (entries_of (drop (i + 1) commits)))) first)
      stops (Ok after) h = cc
      stops (Err refusal) h = refl
  own-fails changes Memory all h = (
    refl,
    list_any_at (λ (commit : Commit). nat_lt 0 (length commit.entries)) commits i commit lt
        (ap (λ (commit : Commit). nat_lt 0 (length commit.entries)) (sym is) ∙ h.1),
  )
  own-fails changes Broken all h = h

-- ---- all partitions

-- some partition, to read a list by
partition-at : (partitions : List Partition) (k : ℕ) → k < length partitions → Partition
partition-at [] k lt = absurd (omega arith)
partition-at (partition ∷ partitions) zero lt = partition
partition-at (partition ∷ partitions) (suc k) lt = partition-at partitions k (omega arith)

tables-at : (partitions : List Partition) (k : ℕ) (partition : Partition) (d : Tables) → k < length partitions
    → get_or (views partitions) k d ≡ (get_or partitions k partition).tables.items
tables-at partitions k partition d lt = get_or-map (λ (partition : Partition). partition.tables.items) partitions k partition d lt

module _ (laws : AreEntryLaws) (olds news : List Partition) (many : length news ≡ length olds) where
  module _ (commits : List Commit) (some : Bool) (filled : 0 < length olds) (are : ArePartitions (views olds))
      (ends : (k : ℕ) (d : Partition) → k < length olds → EndsAs some
      (apply_entries (get_or olds k d).tables.items (entries_in (length olds) k (entries_of commits)))
      (get_or news k d).tables.items (get_or news k d).fault) where
    pub together-ok : ((k : ℕ) (d : Partition) → k < length news → (get_or news k d).fault ≡ None)
        → (apply_commits (tables_in (views olds)) commits ≡ Ok (tables_in (views news))) × ArePartitions (views news)
    together-ok none =
        let fold = partitions-fold laws (entries_of commits) (views olds) (views news) (length olds) (sym (views-length olds)) filled
        (views-length news ∙ many ∙ sym (views-length olds)) are each in
        (commits-entries (tables_in (views olds)) commits ∙ fold.0, fold.1)
      where
        each : (k : ℕ) (d e : Tables) → k < length (views olds)
            → apply_entries (get_or (views olds) k d) (entries_in (length olds) k (entries_of commits)) ≡ Ok (get_or (views news) k e)
        each k d e lt =
            let within : k < length olds = omega (arith, lt, views-length olds) in
            let partition = partition-at olds k within in
            let few : k < length news = omega (arith, within, many) in
            ap (λ tables. apply_entries tables (entries_in (length olds) k (entries_of commits))) (tables-at olds k partition d within)
            ∙ subst (EndsAs some (apply_entries (get_or olds k partition).tables.items (entries_in (length olds) k (entries_of commits)))
            (get_or news k partition).tables.items) (none k partition few) (ends k partition within)
            ∙ sym (ap (λ tables. Ok tables) (tables-at news k partition e few))

    pub together-err : (k : ℕ) (fault : ApplyFault) → k < length news → ((d : Partition) → (get_or news k d).fault ≡ Some fault)
        → FailsAs true some (apply_commits (tables_in (views olds)) commits) fault
    together-err k fault few has =
        let within : k < length olds = omega (arith, few, many) in
        let partition = partition-at olds k within in
        by k within partition fault
        (subst (EndsAs some (apply_entries (get_or olds k partition).tables.items (entries_in (length olds) k (entries_of commits)))
        (get_or news k partition).tables.items) (has partition) (ends k partition within))
      where
        by : (k : ℕ) → k < length olds → (partition : Partition) → (fault : ApplyFault)
            → FailsAs true some (apply_entries (get_or olds k partition).tables.items (entries_in (length olds) k (entries_of commits)))
            fault
            → FailsAs true some (apply_commits (tables_in (views olds)) commits) fault
        by k within partition Inconsistent h =
            let own : IsErr (apply_entries (get_or (views olds) k []) (entries_in (length olds) k (entries_of commits))) =
            subst (λ tables. IsErr (apply_entries tables (entries_in (length olds) k (entries_of commits))))
            (sym (tables-at olds k partition [] within)) h.1 in (
              refl,
              subst IsErr (sym (commits-entries (tables_in (views olds)) commits))
                  (refused-fold laws (entries_of commits) (views olds) (length olds) k [] (sym (views-length olds)) filled are
                  (omega (arith, within, views-length olds)) own),
            )
        by k within partition Memory h = h
        by k within partition Broken h = h

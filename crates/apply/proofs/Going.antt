-- One partition, given entry after entry.
use Rattle.std.proofs.Common.{◌≡◌, ℕ, ◌+◌, ◌<◌, ◌≤◌, Bool, true, false, cond, ◌||◌, List, [], ◌∷◌, ◌++◌}
use Rattle.std.proofs.Common.{slice_set, Option, None, Some, Result, Ok, Err, nat_lt, refl, sym, ap, subst, ◌∙◌, inl, inr, arith}
use Rattle.std.proofs.Common.{length, get_or, take}
use Rattle.std.specs.Option.{is_some}
use Rattle.std.specs.Result.{IsErr}
use Rattle.std.proofs.lemmas.Bool.{false≢true, cases_eq}
use Rattle.std.proofs.lemmas.Bool.Decides.{nat_tests}
use Rattle.std.proofs.lemmas.List.{length-append, append-nil, take_more, get_or-set_same, get_or-set_other, get_or_default}
use Rattle.std.proofs.lemmas.List.Concat.{flat_map-append}
use Rattle.std.proofs.lemmas.List.Elements.{filter-append}
use Rattle.rows.specs.declared.commit.Commit.{Commit}
use Rattle.rows.specs.declared.entry.Entry.{Entry}
use Rattle.rows.specs.Tables.{Tables, Refusal, apply_entry, apply_entries, and_then}
use Rattle.store.specs.Faults.{have_entries}
use Rattle.store.specs.declared.faults.ApplyFault.{ApplyFault}
use Rattle.store.specs.declared.faults.ApplyFault.TheVariants.{Inconsistent, Memory, Broken}
use Rattle.apply.specs.declared.partition.Partition.{Partition}
use Rattle.apply.specs.Inner.Ends.{EndsAs, GoesOn, GoesOnAs}
use Rattle.apply.specs.Inner.Gathered.{is_in, entries_in, entries_of}
use Rattle.apply.proofs.Splits.{entries-append}

-- no entry changes nothing
pub goes-nothing : (partition : Partition) → GoesOn [] partition partition
goes-nothing partition = by partition.fault
  where
    by : (fault : Option ApplyFault) → GoesOnAs fault [] partition.tables.items partition.tables.items fault
    by None = refl
    by (Some fault) = refl

-- what stops at the front stops
pub stops : (rest : Tables → Result Tables Refusal) (first : Result Tables Refusal) → IsErr first → IsErr (and_then rest first)
stops rest (Ok after) h = cc
stops rest (Err refusal) h = refl

more-front : (front back : List Entry) → nat_lt 0 (length front) ≡ true → nat_lt 0 (length (front ++ back)) ≡ true
more-front front back some = grind (arith, nat_tests, length-append front back, some)

more-back : (front back : List Entry) → nat_lt 0 (length back) ≡ true → nat_lt 0 (length (front ++ back)) ≡ true
more-back front back some = grind (arith, nat_tests, length-append front back, some)

-- entries, and others after them
pub goes-more : (front back : List Entry) (first middle last : Partition) → GoesOn front first middle → GoesOn back middle last
    → GoesOn (front ++ back) first last
goes-more front back first middle last one two = by first.fault middle.fault last.fault one two
  where
    all : apply_entries first.tables.items (front ++ back)
        ≡ and_then (λ after. apply_entries after back) (apply_entries first.tables.items front)
    all = entries-append first.tables.items front back

    made : apply_entries first.tables.items front ≡ Ok middle.tables.items
        → apply_entries first.tables.items (front ++ back) ≡ apply_entries middle.tables.items back
    made h = all ∙ ap (and_then (λ after. apply_entries after back)) h

    by : (f m l : Option ApplyFault) → GoesOnAs f front first.tables.items middle.tables.items m
        → GoesOnAs m back middle.tables.items last.tables.items l → GoesOnAs f (front ++ back) first.tables.items last.tables.items l
    by (Some failed) m l one two = subst (λ (m : Option ApplyFault). GoesOnAs m back middle.tables.items last.tables.items l) one two
    by None None None one two = made one ∙ two
    by None None (Some Inconsistent) one two = (refl, subst IsErr (sym (made one)) two.1)
    by None None (Some Memory) one two = (refl, more-back front back two.1)
    by None None (Some Broken) one two = two
    by None (Some Inconsistent) l one two =
        subst (GoesOnAs None (front ++ back) first.tables.items last.tables.items) (sym two)
        (refl, subst IsErr (sym all) (stops (λ after. apply_entries after back) (apply_entries first.tables.items front) one.1))
    by None (Some Memory) l one two =
        subst (GoesOnAs None (front ++ back) first.tables.items last.tables.items) (sym two) (refl, more-front front back one.1)
    by None (Some Broken) l one two = subst (GoesOnAs None (front ++ back) first.tables.items last.tables.items) (sym two) one

-- ---- one entry, given to a partition

-- a change that was made
pub goes-made : (entry : Entry) (old new : Partition) → is_some old.fault ≡ false → new.fault ≡ old.fault
    → apply_entry old.tables.items entry ≡ Ok new.tables.items → GoesOn (entry ∷ []) old new
goes-made entry old new whole same made =
    subst (GoesOnAs old.fault (entry ∷ []) old.tables.items new.tables.items) (sym same) (by old.fault whole)
  where
    by : (fault : Option ApplyFault) → is_some fault ≡ false → GoesOnAs fault (entry ∷ []) old.tables.items new.tables.items fault
    by None whole = ap (and_then (λ after. apply_entries after [])) made
    by (Some fault) whole = absurd (false≢true (sym whole))

pub own-one : (count partition : ℕ) (entry : Entry) → is_in count partition entry ≡ true
    → entries_in count partition (entry ∷ []) ≡ entry ∷ []
own-one count partition entry is = ap (λ own. cond own (entry ∷ []) []) is

-- it is none of its own
pub goes-past : (count partition : ℕ) (entry : Entry) (own : Partition) → is_in count partition entry ≡ false
    → GoesOn (entries_in count partition (entry ∷ [])) own own
goes-past count partition entry own other =
    subst (λ (entries : List Entry). GoesOn entries own own) (sym (ap (λ own. cond own (entry ∷ []) []) other)) (goes-nothing own)

-- ---- partitions one after the other

pub partition-more : (Fact : ℕ → Partition → Partition → Type 0) (old partitions : List Partition) (k : ℕ) (new own : Partition)
    → k < length partitions
    → ((j : ℕ) (d : Partition) → k ≤ j → get_or partitions j d ≡ get_or old j d)
    → ((j : ℕ) (d : Partition) → j < k → Fact j (get_or old j d) (get_or partitions j d)) → Fact k (get_or partitions k own) new
    → (j : ℕ) (d : Partition) → j < k + 1 → Fact j (get_or old j d) (get_or (slice_set partitions k new) j d)
partition-more Fact old partitions k new own few left done here j d lt = elim (cases_eq j k) [
  | inl is ↦ rw (is, get_or-set_same partitions k new d few)
      (subst (λ (partition : Partition). Fact k partition new) (get_or_default partitions k own d few ∙ left k d (omega arith)) here)
  | inr other ↦ rw (get_or-set_other partitions k j new d other) (done j d (omega (arith, lt, other)))
]

-- ---- lists of them

-- one entry more
pub goes-next : (count partition i : ℕ) (entries : List Entry) (entry : Entry) (first middle last : Partition) → i < length entries
    → entry ≡ get_or entries i entry → GoesOn (entries_in count partition (take i entries)) first middle
    → GoesOn (entries_in count partition (entry ∷ [])) middle last → GoesOn (entries_in count partition (take (i + 1) entries)) first last
goes-next count partition i entries entry first middle last lt is one two =
    subst (λ (entries : List Entry). GoesOn entries first last)
    (sym (ap (entries_in count partition) (take_more entries i entry lt ∙ ap (λ entry. take i entries ++ entry ∷ []) (sym is))
    ∙ filter-append (is_in count partition) (take i entries) (entry ∷ [])))
    (goes-more (entries_in count partition (take i entries)) (entries_in count partition (entry ∷ [])) first middle last one two)

-- one commit more
pub goes-commit : (count partition i : ℕ) (commits : List Commit) (commit : Commit) (first middle last : Partition) → i < length commits
    → commit ≡ get_or commits i commit → GoesOn (entries_in count partition (entries_of (take i commits))) first middle
    → GoesOn (entries_in count partition commit.entries) middle last
    → GoesOn (entries_in count partition (entries_of (take (i + 1) commits))) first last
goes-commit count partition i commits commit first middle last lt is one two =
    let front = entries_of (take i commits) in
    let entries : entries_of (take (i + 1) commits) ≡ front ++ commit.entries =
    ap entries_of (take_more commits i commit lt ∙ ap (λ commit. take i commits ++ commit ∷ []) (sym is))
    ∙ flat_map-append (λ (commit : Commit). commit.entries) (take i commits) (commit ∷ [])
    ∙ ap (λ (own : List Entry). front ++ own) (append-nil commit.entries) in
    subst (λ (entries : List Entry). GoesOn entries first last)
    (sym (ap (entries_in count partition) entries ∙ filter-append (is_in count partition) front commit.entries))
    (goes-more (entries_in count partition front) (entries_in count partition commit.entries) first middle last one two)

-- ---- where no partition has failed before

-- an entry of a partition is one of the commits
have-own : (count partition : ℕ) (commits : List Commit) → nat_lt 0 (length (entries_in count partition (entries_of commits))) ≡ true
    → have_entries commits ≡ true
have-own count partition [] some = absurd (false≢true some)
have-own count partition (commit ∷ commits) some = by commit.entries (have-own count partition commits) some
  where
    by : (entries : List Entry)
        → (nat_lt 0 (length (entries_in count partition (entries_of commits))) ≡ true → have_entries commits ≡ true)
        → nat_lt 0 (length (entries_in count partition (entries ++ entries_of commits))) ≡ true
        → (nat_lt 0 (length entries) || have_entries commits) ≡ true
    by [] rest some = rest some
    by (entry ∷ entries) rest some =
        let here : nat_lt 0 (length (entry ∷ entries)) ≡ true = grind (arith, nat_tests) in
        ap (λ own. own || have_entries commits) here

ends-more : (some more : Bool) (changes : Result Tables Refusal) (tables : Tables) (fault : Option ApplyFault)
    → (some ≡ true → more ≡ true) → EndsAs some changes tables fault → EndsAs more changes tables fault
ends-more some more changes tables None all h = h
ends-more some more changes tables (Some Inconsistent) all h = h
ends-more some more changes tables (Some Memory) all h = (refl, all h.1)
ends-more some more changes tables (Some Broken) all h = h

pub goes-ends : (count partition : ℕ) (commits : List Commit) (old cleared new : Partition) → cleared.fault ≡ None
    → cleared.tables ≡ old.tables
    → GoesOn (entries_in count partition (entries_of commits)) cleared new
    → EndsAs (have_entries commits) (apply_entries old.tables.items (entries_in count partition (entries_of commits))) new.tables.items
    new.fault
goes-ends count partition commits old cleared new none same goes =
    let own = entries_in count partition (entries_of commits) in
    let ended = subst (λ (fault : Option ApplyFault). GoesOnAs fault own cleared.tables.items new.tables.items new.fault) none goes in
    rw (← same) (ends-more (nat_lt 0 (length own)) (have_entries commits) (apply_entries cleared.tables.items own) new.tables.items
    new.fault (have-own count partition commits) ended)

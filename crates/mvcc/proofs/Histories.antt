-- The chain of a row and the commits that it is of.
use Rattle.std.proofs.Common.{◌≡◌, ℕ, suc, zero, ◌+◌, ◌-◌, ◌<◌, ◌≤◌, Bool, true, false, cond, ◌||◌, ◌==◌, List, [], ◌∷◌, ◌++◌, length}
use Rattle.std.proofs.Common.{get_or, take, Option, None, refl, sym, ap, ◌∙◌, arith, append_assoc, length-append, zero-add, add-zero}
use Rattle.std.proofs.Common.{append-nil}
use Rattle.std.specs.Prelude.{nat_le}
use Rattle.std.specs.List.{list_any}
use Rattle.std.specs.List.Sorted.{IsNonDecreasingBy}
use Rattle.std.proofs.lemmas.Bool.{ne_eqb, eq-eqb, lt-leb, le-leb}
use Rattle.std.proofs.lemmas.List.Folds.{list_any-append}
use Rattle.std.proofs.Math.Seq.{take-append_seam}
use Rattle.std.proofs.lemmas.Bool.Decides.{nat_tests}
use Rattle.rows.specs.declared.commit.Commit.{Commit}
use Rattle.rows.specs.declared.entry.Entry.{Entry}
use Rattle.rows.specs.Commits.{last_where}
use Rattle.mvcc.specs.Inner.Keys.{names}
use Rattle.mvcc.specs.Inner.RowBytes.{bytes_after_one, bytes_after, bytes_after_commits, blank_after, blank_after_commits}
use Rattle.mvcc.proofs.RowBytes.{bytes_after-push, bytes_after_commits-push, bytes_after-unnamed}
use Rattle.mvcc.specs.declared.link.Link.{Link}
use Rattle.mvcc.specs.Inner.Newest.{names_in, newest_naming}
use Rattle.mvcc.specs.Inner.Chains.{link_of, chain_behind, chain_of, newest_from, newest_link, latest_from, latest_in, bytes_from, bytes_at}
use Rattle.mvcc.specs.Inner.Chains.{taken_back_at, linked, and_entries}
use Rattle.mvcc.proofs.Links.{newest-push}

-- a link, where there is one
abbrev link_if : Bool → ℕ → Option (List ℕ) → List Link
link_if b number bytes = cond b (record { version = number; bytes = bytes } ∷ []) []

-- one more commit at the end of the list
pub chain-push : (t r before : ℕ) (blank : List ℕ) (was : Option (List ℕ)) (commits : List Commit) (commit : Commit)
    → chain_behind t r before blank was (commits ++ commit ∷ [])
    ≡ chain_behind t r before blank was commits
    ++ link_of t r (before + length commits + 1) commit
    (bytes_after t r (blank_after_commits t blank commits) commit.entries (bytes_after_commits t r blank commits was))
chain-push t r before blank was [] commit =
    ap (λ n. link_of t r (n + 1) commit (bytes_after t r blank commit.entries was) ++ []) (sym (add-zero before)) ∙ append-nil _
chain-push t r before blank was (first ∷ commits) commit =
    let now = bytes_after t r blank first.entries was in
    let next = blank_after t blank first.entries in
    let last = bytes_after t r (blank_after_commits t next commits) commit.entries (bytes_after_commits t r next commits now) in
    let same : before + 1 + length commits ≡ before + suc (length commits) = omega arith in
    ap (λ links. link_of t r (before + 1) first now ++ links) (chain-push t r (before + 1) next now commits commit)
    ∙ sym (append_assoc (link_of t r (before + 1) first now) (chain_behind t r (before + 1) next now commits)
    (link_of t r (before + 1 + length commits + 1) commit last))
    ∙ ap (λ n. (link_of t r (before + 1) first now ++ chain_behind t r (before + 1) next now commits)
    ++ link_of t r (n + 1) commit last) same

-- the version of the last link is the last commit that wrote the row
pub chain-newest : (t r before : ℕ) (blank : List ℕ) (was : Option (List ℕ)) (commits : List Commit) (last : ℕ)
    → newest_from last (chain_behind t r before blank was commits) ≡ cond (last_where (names_in t r) before commits == 0) last
    (last_where (names_in t r) before commits)
chain-newest t r before blank was [] last = refl
chain-newest t r before blank was (commit ∷ commits) last =
    by (names_in t r commit) (chain-newest t r (before + 1) (blank_after t blank commit.entries)
    (bytes_after t r blank commit.entries was) commits)
  where
    by : (b : Bool) → ((last : ℕ) → newest_from last
        (chain_behind t r (before + 1) (blank_after t blank commit.entries) (bytes_after t r blank commit.entries was) commits) ≡ cond
        (last_where (names_in t r) (before + 1) commits == 0) last (last_where (names_in t r) (before + 1) commits))
        → newest_from last (cond b (record { version = before + 1; bytes = bytes_after t r blank commit.entries was } ∷ []) []
        ++ chain_behind t r (before + 1) (blank_after t blank commit.entries) (bytes_after t r blank commit.entries was) commits)
        ≡ cond
        (cond (last_where (names_in t r) (before + 1) commits == 0) (cond b (before + 1) 0) (last_where (names_in t r) (before + 1) commits)
        == 0)
        last
        (cond (last_where (names_in t r) (before + 1) commits == 0)
        (cond b (before + 1) 0) (last_where (names_in t r) (before + 1) commits))
    by true rest = rest (before + 1) ∙ grind (arith, nat_tests)
    by false rest = rest last ∙ grind (arith, nat_tests)

newest-le : (t r before : ℕ) (commits : List Commit) → last_where (names_in t r) before commits ≤ before + length commits
newest-le t r before [] = omega arith
newest-le t r before (commit ∷ commits) = by (names_in t r commit) (newest-le t r (before + 1) commits)
  where
    by : (b : Bool) → last_where (names_in t r) (before + 1) commits ≤ before + 1 + length commits
        → cond (last_where (names_in t r) (before + 1) commits == 0)
        (cond b (before + 1) 0) (last_where (names_in t r) (before + 1) commits)
        ≤ before + suc (length commits)
    by true h = grind (arith, nat_tests)
    by false h = grind (arith, nat_tests)

-- the bytes of the last link are the row's after all commits
pub chain-latest : (t r before : ℕ) (blank : List ℕ) (was : Option (List ℕ)) (commits : List Commit)
    → latest_from was (chain_behind t r before blank was commits) ≡ bytes_after_commits t r blank commits was
chain-latest t r before blank was [] = refl
chain-latest t r before blank was (commit ∷ commits) =
    by (names_in t r commit) refl (chain-latest t r (before + 1) (blank_after t blank commit.entries)
    (bytes_after t r blank commit.entries was) commits)
  where
    by : (b : Bool) → names_in t r commit ≡ b
        → latest_from (bytes_after t r blank commit.entries was)
        (chain_behind t r (before + 1) (blank_after t blank commit.entries) (bytes_after t r blank commit.entries was) commits)
        ≡ bytes_after_commits t r
        (blank_after t blank commit.entries) commits (bytes_after t r blank commit.entries was)
        → latest_from was (cond b (record { version = before + 1; bytes = bytes_after t r blank commit.entries was } ∷ []) []
        ++ chain_behind t r (before + 1) (blank_after t blank commit.entries) (bytes_after t r blank commit.entries was) commits)
        ≡ bytes_after_commits t r (blank_after t blank commit.entries) commits (bytes_after t r blank commit.entries was)
    by true e rest = rest
    by false e rest =
        let same = bytes_after-unnamed t r blank commit.entries was e in
        ap (λ last. latest_from last (chain_behind t r (before + 1) (blank_after t blank commit.entries)
        (bytes_after t r blank commit.entries was) commits)) (sym same)
        ∙ rest

-- the versions of the links are later than the commits before the list
chain-above : (t r before : ℕ) (blank : List ℕ) (was : Option (List ℕ)) (commits : List Commit) (i : ℕ) (d : Link)
    → i < length (chain_behind t r before blank was commits)
    → before < (get_or (chain_behind t r before blank was commits) i d).version
chain-above t r before blank was [] i d h = absurd (omega arith)
chain-above t r before blank was (commit ∷ commits) i d h =
    by (names_in t r commit) i (chain-above t r (before + 1) (blank_after t blank commit.entries)
    (bytes_after t r blank commit.entries was) commits) h
  where
    by : (b : Bool) (i : ℕ)
        → ((i : ℕ) (d : Link) → i < length (chain_behind t r (before + 1) (blank_after t blank commit.entries)
        (bytes_after t r blank commit.entries was) commits)
        → before + 1 < (get_or (chain_behind t r (before + 1) (blank_after t blank commit.entries)
        (bytes_after t r blank commit.entries was) commits) i d).version)
        → i < length (link_if b (before + 1) (bytes_after t r blank commit.entries was)
        ++ chain_behind t r (before + 1) (blank_after t blank commit.entries) (bytes_after t r blank commit.entries was) commits)
        → before < (get_or (link_if b (before + 1) (bytes_after t r blank commit.entries was)
        ++ chain_behind t r (before + 1) (blank_after t blank commit.entries)
        (bytes_after t r blank commit.entries was) commits) i d).version
    by true zero rest h = omega arith
    by true (suc i) rest h = omega (arith, rest i d (omega arith))
    by false i rest h = omega (arith, rest i d h)

-- they do not fall
chain-ascends : (t r before : ℕ) (blank : List ℕ) (was : Option (List ℕ)) (commits : List Commit)
    → IsNonDecreasingBy (λ (link : Link). link.version) (chain_behind t r before blank was commits)
chain-ascends t r before blank was [] i j d h k = absurd (omega arith)
chain-ascends t r before blank was (commit ∷ commits) i j d h k =
    by (names_in t r commit) i j (chain-above t r (before + 1) (blank_after t blank commit.entries)
    (bytes_after t r blank commit.entries was) commits)
    (chain-ascends t r (before + 1) (blank_after t blank commit.entries) (bytes_after t r blank commit.entries was) commits) h k
  where
    by : (b : Bool) (i j : ℕ)
        → ((i : ℕ) (d : Link) → i < length (chain_behind t r (before + 1) (blank_after t blank commit.entries)
        (bytes_after t r blank commit.entries was) commits)
        → before + 1 < (get_or (chain_behind t r (before + 1) (blank_after t blank commit.entries)
        (bytes_after t r blank commit.entries was) commits) i d).version)
        → IsNonDecreasingBy (λ (link : Link). link.version)
        (chain_behind t r (before + 1) (blank_after t blank commit.entries) (bytes_after t r blank commit.entries was) commits)
        → i ≤ j → j < length (link_if b (before + 1) (bytes_after t r blank commit.entries was)
        ++ chain_behind t r (before + 1) (blank_after t blank commit.entries) (bytes_after t r blank commit.entries was) commits)
        → (get_or (link_if b (before + 1) (bytes_after t r blank commit.entries was)
        ++ chain_behind t r (before + 1) (blank_after t blank commit.entries)
        (bytes_after t r blank commit.entries was) commits) i d).version
        ≤ (get_or (link_if b (before + 1) (bytes_after t r blank commit.entries was)
        ++ chain_behind t r (before + 1) (blank_after t blank commit.entries)
        (bytes_after t r blank commit.entries was) commits) j d).version
    by true zero zero above rest h k = omega arith
    by true zero (suc j) above rest h k = omega (arith, above j d (omega arith))
    by true (suc i) zero above rest h k = absurd (omega arith)
    by true (suc i) (suc j) above rest h k = rest i j d (omega arith) (omega arith)
    by false i j above rest h k = rest i j d h k

pub chain-sorted : (t r : ℕ) (blank : List ℕ) (commits : List Commit)
    → IsNonDecreasingBy (λ (link : Link). link.version) (chain_of t r blank commits)
chain-sorted t r blank commits = chain-ascends t r 0 blank None commits

-- before the first commit of the list nothing was linked
bytes-none : (version : ℕ) (links : List Link) (was : Option (List ℕ))
    → ((i : ℕ) (d : Link) → i < length links → version < (get_or links i d).version) → bytes_from version was links ≡ was
bytes-none version [] was above = refl
bytes-none version (link ∷ links) was above =
    let later : nat_le link.version version ≡ false = lt-leb _ _ (above 0 link (omega arith)) in
    ap (λ b. cond b (bytes_from version link.bytes links) was) later

-- the bytes at a version are the row's after the commits up to it
chain-bytes : (t r before version : ℕ) (blank : List ℕ) (was : Option (List ℕ)) (commits : List Commit)
    → bytes_from (before + version) was (chain_behind t r before blank was commits) ≡ bytes_after_commits t r blank
    (take version commits) was
chain-bytes t r before zero blank was commits =
    bytes-none (before + 0) (chain_behind t r before blank was commits) was
    (λ i d h. omega (arith, chain-above t r before blank was commits i d h))
chain-bytes t r before (suc version) blank was [] = refl
chain-bytes t r before (suc version) blank was (commit ∷ commits) =
    by (names_in t r commit) refl (ap
    (λ n. bytes_from n (bytes_after t r blank commit.entries was)
    (chain_behind t r (before + 1) (blank_after t blank commit.entries) (bytes_after t r blank commit.entries was) commits)) same
    ∙ chain-bytes t r (before + 1) version (blank_after t blank commit.entries) (bytes_after t r blank commit.entries was) commits)
  where
    same : before + suc version ≡ before + 1 + version
    same = omega arith

    by : (b : Bool) → names_in t r commit ≡ b
        → bytes_from (before + suc version) (bytes_after t r blank commit.entries was)
        (chain_behind t r (before + 1) (blank_after t blank commit.entries) (bytes_after t r blank commit.entries was) commits)
        ≡ bytes_after_commits t r
        (blank_after t blank commit.entries) (take version commits) (bytes_after t r blank commit.entries was)
        → bytes_from (before + suc version) was
        (link_if b (before + 1) (bytes_after t r blank commit.entries was)
        ++ chain_behind t r (before + 1) (blank_after t blank commit.entries) (bytes_after t r blank commit.entries was) commits)
        ≡ bytes_after_commits t r (blank_after t blank commit.entries) (take version commits) (bytes_after t r blank commit.entries was)
    by true e rest =
        let early : nat_le (before + 1) (before + suc version) ≡ true = le-leb _ _ (omega arith) in
        ap (λ b. cond b (bytes_from (before + suc version) (bytes_after t r blank commit.entries was)
        (chain_behind t r (before + 1) (blank_after t blank commit.entries) (bytes_after t r blank commit.entries was) commits)) was) early
        ∙ rest
    by false e rest =
        let same_row = bytes_after-unnamed t r blank commit.entries was e in
        ap (λ last. bytes_from (before + suc version) last
        (chain_behind t r (before + 1) (blank_after t blank commit.entries) (bytes_after t r blank commit.entries was) commits))
        (sym same_row) ∙ rest

pub chain-at : (t r version : ℕ) (blank : List ℕ) (commits : List Commit)
    → bytes_at version (chain_of t r blank commits) ≡ bytes_after_commits t r blank (take version commits) None
chain-at t r version blank commits =
    ap (λ n. bytes_at n (chain_of t r blank commits)) (sym (zero-add version)) ∙ chain-bytes t r 0 version blank None commits

pub chain-newest_naming : (t r : ℕ) (blank : List ℕ) (commits : List Commit) → newest_link (chain_of t r blank commits)
    ≡ newest_naming t r commits
chain-newest_naming t r blank commits = chain-newest t r 0 blank None commits 0 ∙ alike (newest_naming t r commits)
  where
    alike : (n : ℕ) → cond (n == 0) 0 n ≡ n
    alike n = grind (arith, nat_tests)

-- the chain of a row once one more commit has these entries
and_entries-chain : (t r : ℕ) (blank : List ℕ) (commits : List Commit) (entries : List Entry)
    → chain_of t r blank (and_entries commits entries)
    ≡ chain_of t r blank commits ++ link_if (list_any (names t r) entries) (length commits + 1)
    (bytes_after t r (blank_after_commits t blank commits) entries (bytes_after_commits t r blank commits None))
and_entries-chain t r blank commits entries =
    chain-push t r 0 blank None commits (record { worker = 0; entries = entries })
    ∙ ap (λ n. chain_of t r blank commits
    ++ link_if (list_any (names t r) entries) (n + 1) (bytes_after t r (blank_after_commits t blank commits) entries
    (bytes_after_commits t r blank commits None)))
    (zero-add (length commits))

-- which worker commits is nothing to the chains
pub and_entries-commit : (t r : ℕ) (blank : List ℕ) (commits : List Commit) (commit : Commit)
    → chain_of t r blank (commits ++ commit ∷ []) ≡ chain_of t r blank (and_entries commits commit.entries)
and_entries-commit t r blank commits commit =
    chain-push t r 0 blank None commits commit ∙ sym (chain-push t r 0 blank None commits (record { worker = 0; entries = commit.entries }))

-- a commit without entries links nothing, and neither do entries of other rows
pub and_entries-other : (t r : ℕ) (blank : List ℕ) (commits : List Commit) (entries : List Entry) → list_any (names t r) entries ≡ false
    → chain_of t r blank (and_entries commits entries) ≡ chain_of t r blank commits
and_entries-other t r blank commits entries h =
    and_entries-chain t r blank commits entries
    ∙ ap (λ b. chain_of t r blank commits
    ++ link_if b (length commits + 1) (bytes_after t r (blank_after_commits t blank commits) entries
    (bytes_after_commits t r blank commits None))) h
    ∙ append-nil (chain_of t r blank commits)

-- the chain of a row is as it was once the link of the next commit is taken back, where there is one
pub taken_back-chain : (t r : ℕ) (blank : List ℕ) (commits : List Commit)
    → taken_back_at (length commits + 1) (chain_of t r blank commits) ≡ chain_of t r blank commits
taken_back-chain t r blank commits =
    let newest = chain-newest_naming t r blank commits in
    let below = newest-le t r 0 commits in
    let other : (newest_link (chain_of t r blank commits) == length commits + 1) ≡ false = ne_eqb _ _ (λ e. omega arith) in
    ap (λ b. cond b (take (length (chain_of t r blank commits) - 1) (chain_of t r blank commits)) (chain_of t r blank commits)) other

taken_back-push : (links : List Link) (number : ℕ) (bytes : Option (List ℕ))
    → taken_back_at number (links ++ record { version = number; bytes = bytes } ∷ []) ≡ links
taken_back-push links number bytes =
    let link : Link = record { version = number; bytes = bytes } in
    let same : (newest_link (links ++ link ∷ []) == number) ≡ true = eq-eqb _ _ (newest-push links link 0) in
    let count : length (links ++ link ∷ []) - 1 ≡ length links = omega (arith, length-append links (link ∷ [])) in
    ap (λ b. cond b (take (length (links ++ link ∷ []) - 1) (links ++ link ∷ [])) (links ++ link ∷ [])) same
    ∙ ap (λ n. take n (links ++ link ∷ [])) count
    ∙ take-append_seam links (link ∷ [])

pub taken_back-and_entries : (t r : ℕ) (blank : List ℕ) (commits : List Commit) (entries : List Entry)
    → taken_back_at (length commits + 1) (chain_of t r blank (and_entries commits entries)) ≡ chain_of t r blank commits
taken_back-and_entries t r blank commits entries =
    ap (taken_back_at (length commits + 1)) (and_entries-chain t r blank commits entries)
    ∙ by (list_any (names t r) entries)
  where
    by : (b : Bool) → taken_back_at (length commits + 1)
        (chain_of t r blank commits ++ link_if b (length commits + 1)
        (bytes_after t r (blank_after_commits t blank commits) entries (bytes_after_commits t r blank commits None)))
        ≡ chain_of t r blank commits
    by true =
        taken_back-push (chain_of t r blank commits) (length commits + 1) (bytes_after t r (blank_after_commits t blank commits) entries
        (bytes_after_commits t r blank commits None))
    by false = ap (taken_back_at (length commits + 1)) (append-nil (chain_of t r blank commits)) ∙ taken_back-chain t r blank commits

any-push : {X : Type 0} (p : X → Bool) (xs : List X) (x : X) → list_any p (xs ++ x ∷ []) ≡ (list_any p xs || p x)
any-push p xs x = list_any-append p xs (x ∷ []) ∙ ap (λ b. list_any p xs || b) (alone (p x))
  where
    alone : (b : Bool) → (b || false) ≡ b
    alone true = refl
    alone false = refl

-- the row's bytes after the entries so far are those of the last link
latest-and_entries : (t r : ℕ) (blank : List ℕ) (commits : List Commit) (entries : List Entry)
    → latest_in (chain_of t r blank (and_entries commits entries)) ≡ bytes_after t r (blank_after_commits t blank commits) entries
    (bytes_after_commits t r blank commits None)
latest-and_entries t r blank commits entries =
    chain-latest t r 0 blank None (and_entries commits entries)
    ∙ bytes_after_commits-push t r blank commits (record { worker = 0; entries = entries }) None

-- what an entry of the row, or of another, makes of its link
entry-linked : (t r : ℕ) (blank : List ℕ) (commits : List Commit) (entries : List Entry) (entry : Entry) (named here : Bool)
    → list_any (names t r) entries ≡ named
    → chain_of t r blank commits ++ link_if (named || here) (length commits + 1)
    (cond here (bytes_after_one (blank_after t (blank_after_commits t blank commits) entries) entry (bytes_after t r
    (blank_after_commits t blank commits) entries (bytes_after_commits t r blank commits None)))
    (bytes_after t r (blank_after_commits t blank commits) entries (bytes_after_commits t r blank commits None)))
    ≡ cond here (linked (length commits + 1) (blank_after t (blank_after_commits t blank commits) entries) entry (chain_of t r blank
    (and_entries commits entries)))
    (chain_of t r blank (and_entries commits entries))
entry-linked t r blank commits entries entry named true e =
    ap (λ b. chain_of t r blank commits
    ++ link_if b (length commits + 1)
    (bytes_after_one (blank_after t (blank_after_commits t blank commits) entries) entry (bytes_after t r
    (blank_after_commits t blank commits) entries (bytes_after_commits t r blank commits None)))) (surely named)
    ∙ ap (λ bytes. chain_of t r blank commits
    ++ record {
      version = length commits + 1;
      bytes = bytes_after_one (blank_after t
          (blank_after_commits t blank commits) entries) entry bytes;
    } ∷ [])
    (sym (latest-and_entries t r blank commits entries))
    ∙ ap (λ links. links ++ record {
      version = length commits + 1;
      bytes = bytes_after_one (blank_after t (blank_after_commits t blank commits) entries) entry (latest_in (chain_of t r blank
          (and_entries commits entries)));
    } ∷ [])
    (sym (taken_back-and_entries t r blank commits entries))
  where
    surely : (b : Bool) → (b || true) ≡ true
    surely true = refl
    surely false = refl
entry-linked t r blank commits entries entry named false e =
    ap (λ b. chain_of t r blank commits
    ++ link_if b (length commits + 1) (bytes_after t r (blank_after_commits t blank commits) entries
    (bytes_after_commits t r blank commits None))) (alone named ∙ sym e)
    ∙ sym (and_entries-chain t r blank commits entries)
  where
    alone : (b : Bool) → (b || false) ≡ b
    alone true = refl
    alone false = refl

-- one more entry of that commit
pub and_entries-push : (t r : ℕ) (blank : List ℕ) (commits : List Commit) (entries : List Entry) (entry : Entry)
    → chain_of t r blank (and_entries commits (entries ++ entry ∷ []))
    ≡ cond (names t r entry) (linked (length commits + 1) (blank_after t (blank_after_commits t blank commits) entries) entry
    (chain_of t r blank (and_entries commits entries)))
    (chain_of t r blank (and_entries commits entries))
and_entries-push t r blank commits entries entry =
    let number = length commits + 1 in
    let was = bytes_after_commits t r blank commits None in
    and_entries-chain t r blank commits (entries ++ entry ∷ [])
    ∙ ap (λ b. chain_of t r blank commits ++ link_if b number (bytes_after t r (blank_after_commits t blank commits) (entries
    ++ entry ∷ []) was))
    (any-push (names t r) entries entry)
    ∙ ap (λ bytes. chain_of t r blank commits ++ link_if (list_any (names t r) entries || names t r entry) number bytes)
    (bytes_after-push t r (blank_after_commits t blank commits) entries entry was)
    ∙ entry-linked t r blank commits entries entry (list_any (names t r) entries) (names t r entry) refl

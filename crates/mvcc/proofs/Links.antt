-- Chains alone: the last link, the link of a version, and what the chains are once one of them changed.
use Rattle.std.proofs.Common.{◌≡◌, ℕ, suc, zero, ◌-◌, ◌<◌, ◌≤◌, Bool, true, false, cond, ◌&&◌, ◌==◌, List, [], ◌∷◌, ◌++◌, length}
use Rattle.std.proofs.Common.{get_or, take, Option, None, Some, slice_get, refl, sym, ap, ◌∙◌, arith}
use Rattle.std.specs.Prelude.{nat_le}
use Rattle.std.specs.List.Sorted.{IsPartitionPoint}
use Rattle.std.specs.Map.{lookup, set_value}
use Rattle.std.specs.BTreeMap.{is_at}
use Rattle.rows.specs.declared.entry.Entry.{Entry}
use Rattle.rows.specs.declared.row_id.RowId.{RowId}
use Rattle.rows.specs.Entries.{table_of, row_of}
use Rattle.std.proofs.lemmas.Bool.{and_parts, eqb-true}
use Rattle.mvcc.specs.Inner.Keys.{is_key_of, names, key_cmp}
use Rattle.mvcc.proofs.Keys.{names-is, names-none, lookup-key, lookup-set, lookup-put}
use Rattle.mvcc.specs.declared.link.Link.{Link}
use Rattle.mvcc.specs.Inner.Chains.{Chains, newest_from, latest_from, bytes_from, taken_back_at, links_found, links_at, Turns}

-- what is told of the last link
pub newest-last : (links : List Link) (link : Link) (last : ℕ) → slice_get links (length links - 1) ≡ Some link
    → newest_from last links ≡ link.version
newest-last [] link last h = cc
newest-last (first ∷ []) link last h = cc
newest-last (first ∷ next ∷ links) link last h =
    let e : suc (suc (length links)) - 1 ≡ suc (length links) = omega arith in
    let f : suc (length links) - 1 ≡ length links = omega arith in
    newest-last (next ∷ links) link first.version (ap (slice_get (next ∷ links)) f ∙ sym (ap (slice_get (first ∷ next ∷ links)) e) ∙ h)

pub latest-last : (links : List Link) (link : Link) (last : Option (List ℕ)) → slice_get links (length links - 1) ≡ Some link
    → latest_from last links ≡ link.bytes
latest-last [] link last h = cc
latest-last (first ∷ []) link last h = cc
latest-last (first ∷ next ∷ links) link last h =
    let e : suc (suc (length links)) - 1 ≡ suc (length links) = omega arith in
    let f : suc (length links) - 1 ≡ length links = omega arith in
    latest-last (next ∷ links) link first.bytes (ap (slice_get (next ∷ links)) f ∙ sym (ap (slice_get (first ∷ next ∷ links)) e) ∙ h)

-- one more link at the end
pub newest-push : (links : List Link) (link : Link) (last : ℕ) → newest_from last (links ++ link ∷ []) ≡ link.version
newest-push [] link last = refl
newest-push (first ∷ links) link last = newest-push links link first.version

-- the bytes at a version are those of the last link before where the later versions begin
pub bytes-partition : (version : ℕ) (links : List Link) (end : ℕ) (was : Option (List ℕ)) → end ≤ length links
    → IsPartitionPoint (λ (y : Link). nat_le y.version version ≡ true) (λ y. nat_le y.version version ≡ false) links end
    → bytes_from version was links ≡ latest_from was (take end links)
bytes-partition version [] zero was h p = refl
bytes-partition version [] (suc end) was h p = absurd (omega arith)
bytes-partition version (link ∷ links) zero was h p =
    let above : nat_le link.version version ≡ false = p.1 0 link (omega arith) (omega arith) in
    ap (λ b. cond b (bytes_from version link.bytes links) was) above
bytes-partition version (link ∷ links) (suc end) was h p =
    let below : nat_le link.version version ≡ true = p.0 0 link (omega arith) (omega arith) in
    ap (λ b. cond b (bytes_from version link.bytes links) was) below
    ∙ bytes-partition version links end link.bytes (omega arith)
    (λ k d low high. p.0 (suc k) d (omega arith) (omega arith), λ k d low high. p.1 (suc k) d (omega arith) (omega arith))

pub latest-take : (links : List Link) (end : ℕ) (link : Link) (was : Option (List ℕ)) → end < length links
    → latest_from was (take (suc end) links) ≡ (get_or links end link).bytes
latest-take [] end link was h = absurd (omega arith)
latest-take (first ∷ links) zero link was h = refl
latest-take (first ∷ links) (suc end) link was h = latest-take links end link first.bytes (omega arith)

pub latest-before : (links : List Link) (end : ℕ) (link : Link) (was : Option (List ℕ)) → (end ≡ 0 → ⊥) → end ≤ length links
    → link ≡ get_or links (end - 1) link → latest_from was (take end links) ≡ link.bytes
latest-before links zero link was some h e = absurd (some refl)
latest-before links (suc end) link was some h e =
    let same : suc end - 1 ≡ end = omega arith in
    latest-take links end link was (omega arith) ∙ ap (λ (l : Link). l.bytes) (sym (e ∙ ap (λ i. get_or links i link) same))

-- the chains once the chain of one row, which an entry is of, was replaced by what a change makes of it
links-put : (before after : Chains) (entry : Entry) (id : RowId) (change : List Link → List Link) (links : List Link)
    → row_of entry ≡ Some id
    → links ≡ change (links_at before (table_of entry) id.0)
    → ((t r : ℕ) → lookup (is_key_of t r) after ≡ cond ((table_of entry == t) && (id.0 == r)) (Some links) (lookup (is_key_of t r) before))
    → Turns entry change before after
links-put before after entry id change links own made put t r =
    ap links_found (put t r) ∙ by ((table_of entry == t) && (id.0 == r)) refl
    ∙ ap (λ here. cond here (change (links_at before t r)) (links_at before t r)) (sym (names-is t r entry id own))
  where
    by : (here : Bool) → ((table_of entry == t) && (id.0 == r)) ≡ here
        → links_found (cond here (Some links) (lookup (is_key_of t r) before)) ≡ cond here (change (links_at before t r))
        (links_at before t r)
    by false e = refl
    by true e =
        let parts = and_parts (table_of entry == t) (id.0 == r) e in
        made ∙ ap (λ t. change (links_at before t id.0)) (eqb-true (table_of entry) t parts.0)
        ∙ ap (λ r. change (links_at before t r)) (eqb-true id.0 r parts.1)

-- the chain that the map found of a row
found-at : (chains : Chains) (entry : Entry) (table row : ℕ) (found : Option (List Link)) → table ≡ table_of entry
    → lookup (is_at (key_cmp (table, row))) chains ≡ found → links_found found ≡ links_at chains (table_of entry) row
found-at chains entry table row found of_table e =
    ap links_found (sym e ∙ lookup-key chains table row) ∙ ap (λ t. links_at chains t row) of_table

-- once a chain that is there was changed, and once a new one was put in
pub links-set : (before : Chains) (entry : Entry) (change : List Link → List Link) (table : ℕ) (id : RowId) (was links : List Link)
    → table ≡ table_of entry → row_of entry ≡ Some id → lookup (is_at (key_cmp (table, id.0))) before ≡ Some was → links ≡ change was
    → Turns entry change before (set_value (is_at (key_cmp (table, id.0))) before links)
links-set before entry change table id was links of_table own e made =
    links-put before (set_value (is_at (key_cmp (table, id.0))) before links) entry id change links own
    (made ∙ ap change (found-at before entry table id.0 (Some was) of_table e))
    (λ t r. lookup-set before table id.0 links was e t r
    ∙ ap (λ n. cond ((n == t) && (id.0 == r)) (Some links) (lookup (is_key_of t r) before)) of_table)

pub links-new : (before after : Chains) (entry : Entry) (change : List Link → List Link) (table : ℕ) (id : RowId) (links : List Link)
    → table ≡ table_of entry → row_of entry ≡ Some id → lookup (is_at (key_cmp (table, id.0))) before ≡ None → links ≡ change []
    → ((key : ℕ × ℕ) → lookup (is_at (key_cmp key)) after ≡ cond (is_at (key_cmp (table, id.0)) key) (Some links)
    (lookup (is_at (key_cmp key)) before))
    → Turns entry change before after
links-new before after entry change table id links of_table own e made updates =
    links-put before after entry id change links own
    (made ∙ ap change (found-at before entry table id.0 None of_table e))
    (λ t r. lookup-put before after table id.0 links updates t r
    ∙ ap (λ n. cond ((n == t) && (id.0 == r)) (Some links) (lookup (is_key_of t r) before)) of_table)

-- where there is no chain, and a change makes nothing of none, no chain has changed
pub links-left : (chains : Chains) (entry : Entry) (change : List Link → List Link) (table : ℕ) (id : RowId) → table ≡ table_of entry
    → row_of entry ≡ Some id → lookup (is_at (key_cmp (table, id.0))) chains ≡ None → change [] ≡ [] → Turns entry change chains chains
links-left chains entry change table id of_table own e nothing t r = by (names t r entry) refl
  where
    by : (here : Bool) → names t r entry ≡ here → links_at chains t r ≡ cond here (change (links_at chains t r)) (links_at chains t r)
    by false e = refl
    by true f =
        let parts = and_parts (table_of entry == t) (id.0 == r) (sym (names-is t r entry id own) ∙ f) in
        let here : links_at chains t r ≡ [] =
        ap (λ t. links_at chains t r) (sym (eqb-true (table_of entry) t parts.0))
        ∙ ap (links_at chains (table_of entry)) (sym (eqb-true id.0 r parts.1))
        ∙ sym (found-at chains entry table id.0 None of_table e) in
        here ∙ sym (ap change here ∙ nothing)

-- an entry that is of no row alone changes no chain
pub links-unnamed : (chains : Chains) (entry : Entry) (change : List Link → List Link) → row_of entry ≡ None
    → Turns entry change chains chains
links-unnamed chains entry change none t r =
    ap (λ here. cond here (change (links_at chains t r)) (links_at chains t r)) (sym (names-none t r entry none))

pub taken_back-none : (number : ℕ) → taken_back_at number [] ≡ []
taken_back-none number = by (0 == number)
  where
    by : (b : Bool) → ◌≡◌ {A = List Link} (cond b (take (0 - 1) []) []) []
    by true = refl
    by false = refl

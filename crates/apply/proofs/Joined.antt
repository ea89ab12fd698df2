-- Blocks one behind the other, and a row between those below it and those above it.
use Rattle.std.proofs.Common.{◌≡◌, ℕ, zero, suc, ◌+◌, ◌-◌, ◌<◌, ◌≤◌, List, [], ◌∷◌, ◌++◌, length, get_or, take, drop, refl, sym, ap}
use Rattle.std.proofs.Common.{subst, ◌∙◌, slice_set, arith}
use Rattle.std.proofs.Common.{Option, None, Some, Result, Ok, Err, OnOk, OnErr, ◌⊎◌, inl, inr}
use Rattle.std.specs.BTreeMap.{is_at}
use Rattle.std.specs.List.{remove, insert}
use Rattle.std.proofs.lemmas.List.Edits.{length-insert, get_or-insert_below, get_or-insert_at, get_or-insert_above, length-remove}
use Rattle.std.proofs.lemmas.List.Edits.{get_or-remove_below, get_or-remove_above}
use Rattle.std.specs.Map.{keys_of, set_value}
use Rattle.std.specs.Option.{is_some}
use Rattle.std.specs.Ordering.{nat_cmp}
use Rattle.std.proofs.lemmas.Bool.{cases_eq}
use Rattle.std.proofs.lemmas.Bool.Decides.{nat_tests}
use Rattle.std.proofs.lemmas.Map.{keys-set_value}
use Rattle.std.proofs.lemmas.Map.Entries.{length-keys_of}
use Rattle.rows.specs.declared.kind.Kind.{Kind}
use Rattle.std.proofs.lemmas.Grind.{flat_map-append}
use Rattle.std.proofs.lemmas.List.{append_assoc, take-append-le, take-take, length-take-le, drop_at, take-append-drop, drop_more}
use Rattle.std.proofs.lemmas.List.{set_split, length-set, get_or-set_same, get_or-set_other, take-set, drop-set-lt}
use Rattle.rows.specs.declared.value.Value.{Value}
use Rattle.rows.specs.Tables.{Rows, Table, row_at, is_present, with_row, with_patch, without_row, patched_row}
use Rattle.apply.specs.Orders.{AllOver, AllUnder, Rising}
use Rattle.apply.specs.Inner.Joins.{joined, AreBlocks, IsHome}
use Rattle.apply.proofs.Ordered.{rising-parts, under-before, under-higher, over-lower, row_at-front, row_at-back, with_row-front}
use Rattle.apply.proofs.Ordered.{with_row-back, set-front, set-back, rising-set, without_row-append, without_row-under}
use Rattle.apply.proofs.Ordered.{without_row-over}

-- at a block
pub joined-at : (blocks : List Table) (m : ℕ) (d : Table) → m < length blocks
    → joined blocks ≡ joined (take m blocks) ++ ((get_or blocks m d).rows ++ joined (drop (m + 1) blocks))
joined-at blocks m d lt =
    ap joined (sym (take-append-drop m blocks)) ∙ flat_map-append (λ (block : Table). block.rows) (take m blocks) (drop m blocks)
    ∙ ap (λ back. joined (take m blocks) ++ joined back) (drop_more blocks m d lt)

-- the rows before a block that begins at or below a row are below it
pub under-step : (blocks : List Table) (m row first e : ℕ) (d : Table) → Rising (joined blocks) → m < length blocks
    → 0 < length (get_or blocks m d).rows → first ≡ get_or (keys_of (get_or blocks m d).rows) 0 e → first ≤ row
    → AllUnder row (joined (take m blocks))
under-step blocks m row first e d rise lt some at le = by (get_or blocks m d).rows (subst Rising (joined-at blocks m d lt) rise) some at
  where
    by : (rows : Rows) → Rising (joined (take m blocks) ++ (rows ++ joined (drop (m + 1) blocks))) → 0 < length rows
        → first ≡ get_or (keys_of rows) 0 e → AllUnder row (joined (take m blocks))
    by [] rise some at = absurd (omega arith)
    by (one ∷ rows) rise some at =
        let parts = rising-parts (joined (take m blocks)) ((one ∷ rows) ++ joined (drop (m + 1) blocks)) rise in
        under-higher one.0 row (joined (take m blocks)) (omega (arith, at, le))
        (under-before one (joined (take m blocks)) (rows ++ joined (drop (m + 1) blocks)) parts.2)

-- and those from a block that begins above it are above it
pub over-step : (blocks : List Table) (m row first e : ℕ) (d : Table) → Rising (joined blocks) → m < length blocks
    → 0 < length (get_or blocks m d).rows → first ≡ get_or (keys_of (get_or blocks m d).rows) 0 e → row < first
    → AllOver row (joined (drop m blocks))
over-step blocks m row first e d rise lt some at more =
    subst (λ back. AllOver row (joined back)) (sym (drop_more blocks m d lt))
    (by (get_or blocks m d).rows (subst Rising (joined-at blocks m d lt) rise) some at)
  where
    by : (rows : Rows) → Rising (joined (take m blocks) ++ (rows ++ joined (drop (m + 1) blocks))) → 0 < length rows
        → first ≡ get_or (keys_of rows) 0 e → AllOver row (rows ++ joined (drop (m + 1) blocks))
    by [] rise some at = absurd (omega arith)
    by (one ∷ rows) rise some at =
        let parts = rising-parts (joined (take m blocks)) ((one ∷ rows) ++ joined (drop (m + 1) blocks)) rise in
        (omega (arith, at, more), over-lower row one.0 (rows ++ joined (drop (m + 1) blocks)) (omega (arith, at, more)) parts.1.0)

-- a row is found in its block alone
pub row_at-home : (blocks : List Table) (m row : ℕ) (d : Table) → m < length blocks → AllUnder row (joined (take m blocks))
    → AllOver row (joined (drop (m + 1) blocks)) → row_at (joined blocks) row ≡ row_at (get_or blocks m d).rows row
row_at-home blocks m row d lt under over =
    ap (λ rows. row_at rows row) (joined-at blocks m d lt)
    ∙ row_at-front row (joined (take m blocks)) ((get_or blocks m d).rows ++ joined (drop (m + 1) blocks)) under
    ∙ row_at-back row (get_or blocks m d).rows (joined (drop (m + 1) blocks)) over

-- ---- another block in the place of one

pub joined-set : (blocks : List Table) (m : ℕ) (new : Table) → m < length blocks
    → joined (slice_set blocks m new) ≡ joined (take m blocks) ++ (new.rows ++ joined (drop (m + 1) blocks))
joined-set blocks m new lt =
    let next : suc m ≡ m + 1 = omega arith in
    ap joined (set_split blocks m new lt)
    ∙ flat_map-append (λ (block : Table). block.rows) (take m blocks) (new ∷ drop (suc m) blocks)
    ∙ ap (λ n. joined (take m blocks) ++ (new.rows ++ joined (drop n blocks))) next

module _ (blocks : List Table) (m row : ℕ) (d : Table) (home : IsHome blocks m row) where
  pub home-present : is_present (joined blocks) row ≡ is_present (get_or blocks m d).rows row
  home-present = ap is_some (row_at-home blocks m row d home.within home.front home.back)

  -- the block takes the row
  pub home-insert : (new : Table) (values : List Value) → new.rows ≡ with_row (get_or blocks m d).rows row values
      → joined (slice_set blocks m new) ≡ with_row (joined blocks) row values
  home-insert new values put =
      joined-set blocks m new home.within
      ∙ ap (λ rows. joined (take m blocks) ++ (rows ++ joined (drop (m + 1) blocks))) put
      ∙ ap (λ rows. joined (take m blocks) ++ rows)
      (sym (with_row-back row values (get_or blocks m d).rows (joined (drop (m + 1) blocks)) home.back))
      ∙ sym (with_row-front row values (joined (take m blocks)) ((get_or blocks m d).rows ++ joined (drop (m + 1) blocks)) home.front)
      ∙ ap (λ rows. with_row rows row values) (sym (joined-at blocks m d home.within))

  home-set : (new : Table) (values : List Value) → new.rows ≡ set_value (is_at (nat_cmp row)) (get_or blocks m d).rows values
      → joined (slice_set blocks m new) ≡ set_value (is_at (nat_cmp row)) (joined blocks) values
  home-set new values put =
      joined-set blocks m new home.within
      ∙ ap (λ rows. joined (take m blocks) ++ (rows ++ joined (drop (m + 1) blocks))) put
      ∙ ap (λ rows. joined (take m blocks) ++ rows)
      (sym (set-back row values (get_or blocks m d).rows (joined (drop (m + 1) blocks)) home.back))
      ∙ sym (set-front row values (joined (take m blocks)) ((get_or blocks m d).rows ++ joined (drop (m + 1) blocks)) home.front)
      ∙ ap (λ rows. set_value (is_at (nat_cmp row)) rows values) (sym (joined-at blocks m d home.within))

  -- the block changes the row
  pub home-patch : (new : Table) (kinds : List Kind) (offset : ℕ) (bytes : List ℕ)
      → new.rows ≡ with_patch kinds (get_or blocks m d).rows row offset bytes
      → joined (slice_set blocks m new) ≡ with_patch kinds (joined blocks) row offset bytes
  home-patch new kinds offset bytes put = by (row_at (get_or blocks m d).rows row) refl
    where
      same : row_at (joined blocks) row ≡ row_at (get_or blocks m d).rows row
      same = row_at-home blocks m row d home.within home.front home.back

      by : (found : Option (List Value)) → row_at (get_or blocks m d).rows row ≡ found
          → joined (slice_set blocks m new) ≡ with_patch kinds (joined blocks) row offset bytes
      by None e =
          let one : new.rows ≡ (get_or blocks m d).rows = put ∙ rw e refl in
          let all : row_at (joined blocks) row ≡ None = same ∙ e in
          joined-set blocks m new home.within
          ∙ ap (λ rows. joined (take m blocks) ++ (rows ++ joined (drop (m + 1) blocks))) one
          ∙ sym (joined-at blocks m d home.within) ∙ rw all refl
      by (Some values) e =
          let one : new.rows ≡ set_value (is_at (nat_cmp row)) (get_or blocks m d).rows (patched_row kinds offset bytes values) =
          put ∙ rw e refl in
          let all : row_at (joined blocks) row ≡ Some values = same ∙ e in
          home-set new (patched_row kinds offset bytes values) one ∙ rw all refl

-- blocks, with another in the place of one
pub blocks-set : (kinds : List Kind) (blocks : List Table) (m : ℕ) (new : Table) → m < length blocks → AreBlocks kinds blocks
    → new.kinds ≡ kinds → 0 < length new.rows → Rising (joined (slice_set blocks m new)) → AreBlocks kinds (slice_set blocks m new)
blocks-set kinds blocks m new lt are of some rise = record {
  alike = λ k d few. elim (cases_eq k m) [
    | inl here ↦ rw (here, get_or-set_same blocks m new d lt) of
    | inr other ↦ rw (get_or-set_other blocks m k new d other) (are.alike k d (omega (arith, few, length-set blocks m new)))
  ];
  some = λ k d few. elim (cases_eq k m) [
    | inl here ↦ rw (here, get_or-set_same blocks m new d lt) some
    | inr other ↦ rw (get_or-set_other blocks m k new d other) (are.some k d (omega (arith, few, length-set blocks m new)))
  ];
  rise = rise;
}

pub some-with_row : (rows : Rows) (row : ℕ) (values : List Value) → 0 < length (with_row rows row values)
some-with_row [] row values = omega arith
some-with_row (one ∷ rows) row values = grind (arith, nat_tests)

pub length-with_patch : (kinds : List Kind) (rows : Rows) (row offset : ℕ) (bytes : List ℕ)
    → length (with_patch kinds rows row offset bytes) ≡ length rows
length-with_patch kinds rows row offset bytes = by (row_at rows row) refl
  where
    by : (found : Option (List Value)) → row_at rows row ≡ found → length (with_patch kinds rows row offset bytes) ≡ length rows
    by None e = rw e refl
    by (Some values) e = rw e (many rows (patched_row kinds offset bytes values))
      where
        many : (rows : Rows) (values : List Value) → length (set_value (is_at (nat_cmp row)) rows values) ≡ length rows
        many rows values =
            let keys = ap length (keys-set_value (is_at (nat_cmp row)) rows values) in
            omega (arith, keys, length-keys_of rows, length-keys_of (set_value (is_at (nat_cmp row)) rows values))

pub rising-with_patch : (kinds : List Kind) (rows : Rows) (row offset : ℕ) (bytes : List ℕ) → Rising rows
    → Rising (with_patch kinds rows row offset bytes)
rising-with_patch kinds rows row offset bytes rise = by (row_at rows row) refl
  where
    by : (found : Option (List Value)) → row_at rows row ≡ found → Rising (with_patch kinds rows row offset bytes)
    by None e = rw e rise
    by (Some values) e = rw e (rising-set row (patched_row kinds offset bytes values) rows rise)

pub ok-then : {T E : Type 0} (result : Result T E) (P Q : Type 0) → OnOk result P → (P → Q) → OnOk result Q
ok-then (Ok value) P Q h then = then h
ok-then (Err fault) P Q h then = h

-- what holds after a call that fails or not
pub ok-or-err : {T E : Type 0} (result : Result T E) (P Q R : Type 0) → OnOk result P → OnErr result Q → (P → R) → (Q → R) → R
ok-or-err (Ok value) P Q R ok err then otherwise = then ok
ok-or-err (Err fault) P Q R ok err then otherwise = otherwise err

-- ---- a row taken out

pub joined-remove : (blocks : List Table) (m : ℕ) → joined (remove blocks m) ≡ joined (take m blocks) ++ joined (drop (m + 1) blocks)
joined-remove blocks m =
    let next : suc m ≡ m + 1 = omega arith in
    flat_map-append (λ (block : Table). block.rows) (take m blocks) (drop (suc m) blocks)
    ∙ ap (λ n. joined (take m blocks) ++ joined (drop n blocks)) next

home-without : (blocks : List Table) (m row : ℕ) (d : Table) → IsHome blocks m row
    → without_row (joined blocks) row ≡ joined (take m blocks) ++ (without_row (get_or blocks m d).rows row ++ joined (drop (m + 1) blocks))
home-without blocks m row d home =
    let rows = (get_or blocks m d).rows in
    ap (λ rows. without_row rows row) (joined-at blocks m d home.within)
    ∙ without_row-append row (joined (take m blocks)) (rows ++ joined (drop (m + 1) blocks))
    ∙ ap (λ front. front ++ without_row (rows ++ joined (drop (m + 1) blocks)) row)
    (without_row-under row (joined (take m blocks)) home.front)
    ∙ ap (λ back. joined (take m blocks) ++ back) (without_row-append row rows (joined (drop (m + 1) blocks)))
    ∙ ap (λ back. joined (take m blocks) ++ (without_row rows row ++ back)) (without_row-over row (joined (drop (m + 1) blocks)) home.back)

pub home-remove : (blocks : List Table) (m row : ℕ) (d new : Table) → IsHome blocks m row
    → new.rows ≡ without_row (get_or blocks m d).rows row
    → joined (slice_set blocks m new) ≡ without_row (joined blocks) row
home-remove blocks m row d new home left =
    joined-set blocks m new home.within ∙ ap (λ rows. joined (take m blocks) ++ (rows ++ joined (drop (m + 1) blocks))) left
    ∙ sym (home-without blocks m row d home)

-- the block loses its last row, and is dropped
pub home-drop : (blocks : List Table) (m row : ℕ) (d : Table) → IsHome blocks m row → without_row (get_or blocks m d).rows row ≡ []
    → joined (remove blocks m) ≡ without_row (joined blocks) row
home-drop blocks m row d home none =
    joined-remove blocks m
    ∙ sym (home-without blocks m row d home ∙ ap (λ rows. joined (take m blocks) ++ (rows ++ joined (drop (m + 1) blocks))) none)

-- a block is dropped, once another is in its place
pub remove-set : (blocks : List Table) (m : ℕ) (new : Table) → remove (slice_set blocks m new) m ≡ remove blocks m
remove-set blocks m new =
    let lt : m < suc m = omega arith in
    rw (take-set blocks m new, drop-set-lt (suc m) blocks m new lt) refl

pub le_or_lt : (a b : ℕ) → (a ≤ b) ⊎ (b < a)
le_or_lt zero b = inl (omega arith)
le_or_lt (suc a) zero = inr (omega arith)
le_or_lt (suc a) (suc b) = elim (le_or_lt a b) [
  | inl h ↦ inl (omega arith)
  | inr h ↦ inr (omega arith)
]

-- the blocks without one
pub blocks-remove : (kinds : List Kind) (blocks : List Table) (m : ℕ) → m < length blocks → AreBlocks kinds blocks
    → Rising (joined (remove blocks m)) → AreBlocks kinds (remove blocks m)
blocks-remove kinds blocks m lt are rise =
    let many = length-remove blocks m lt in
    record {
      alike = λ k d few. elim (le_or_lt m k) [
        | inl past ↦ rw (get_or-remove_above blocks m d k past lt) (are.alike (k + 1) d (omega arith))
        | inr before ↦ rw (get_or-remove_below blocks m d k before lt) (are.alike k d (omega arith))
      ];
      some = λ k d few. elim (le_or_lt m k) [
        | inl past ↦ rw (get_or-remove_above blocks m d k past lt) (are.some (k + 1) d (omega arith))
        | inr before ↦ rw (get_or-remove_below blocks m d k before lt) (are.some k d (omega arith))
      ];
      rise = rise;
    }

-- ---- a block cut in two

each-insert : (P : Table → Type 0) (blocks : List Table) (i : ℕ) (new : Table) → i ≤ length blocks
    → ((k : ℕ) (d : Table) → k < length blocks → P (get_or blocks k d)) → P new
    → (k : ℕ) (d : Table) → k < length blocks + 1 → P (get_or (insert blocks i new) k d)
each-insert P blocks i new le each one k d few = elim (le_or_lt i k) [
  | inr before ↦ rw (get_or-insert_below blocks i new d k before le) (each k d (omega arith))
  | inl past ↦ elim (cases_eq k i) [
    | inl here ↦ rw (here, get_or-insert_at blocks i new d le) one
    | inr other ↦ (let back : k ≡ (k - 1) + 1 = omega arith in
        subst (λ k. P (get_or (insert blocks i new) k d)) (sym back)
        (rw (get_or-insert_above blocks i new d (k - 1) (omega arith) le) (each (k - 1) d (omega arith))))
  ]
]

each-set : (P : Table → Type 0) (blocks : List Table) (m : ℕ) (new : Table) → m < length blocks
    → ((k : ℕ) (d : Table) → k < length blocks → P (get_or blocks k d)) → P new
    → (k : ℕ) (d : Table) → k < length blocks → P (get_or (slice_set blocks m new) k d)
each-set P blocks m new lt each one k d few = elim (cases_eq k m) [
  | inl here ↦ rw (here, get_or-set_same blocks m new d lt) one
  | inr other ↦ rw (get_or-set_other blocks m k new d other) (each k d few)
]

-- the blocks before one stay
pub front-insert : (blocks : List Table) (m : ℕ) (new : Table) → m < length blocks → take m (insert blocks (m + 1) new) ≡ take m blocks
front-insert blocks m new lt =
    let le : m + 1 ≤ length blocks = omega arith in
    take-append-le m (take (m + 1) blocks) (new ∷ drop (m + 1) blocks) (omega (arith, length-take-le (m + 1) blocks le))
    ∙ take-take m (m + 1) blocks (omega arith)

pub joined-cut : (blocks : List Table) (m : ℕ) (d head tail : Table) → m < length blocks
    → head.rows ++ tail.rows ≡ (get_or blocks m d).rows
    → joined (slice_set (insert blocks (m + 1) tail) m head) ≡ joined blocks
joined-cut blocks m d head tail lt both =
    let whole = blocks in
    let le : m + 1 ≤ length blocks = omega arith in
    let many = length-insert blocks (m + 1) tail le in
    let front = front-insert blocks m tail lt in
    let back : drop (m + 1) (insert blocks (m + 1) tail) ≡ tail ∷ drop (m + 1) blocks =
    drop_at (take (m + 1) blocks) (tail ∷ drop (m + 1) blocks) (m + 1) (length-take-le (m + 1) blocks le) in
    joined-set (insert blocks (m + 1) tail) m head (omega (arith, many))
    ∙ ap (λ blocks. joined blocks ++ (head.rows ++ joined (drop (m + 1) (insert whole (m + 1) tail)))) front
    ∙ ap (λ rest. joined (take m blocks) ++ (head.rows ++ joined rest)) back
    ∙ ap (λ rows. joined (take m blocks) ++ rows) (sym (append_assoc head.rows tail.rows (joined (drop (m + 1) blocks))))
    ∙ ap (λ rows. joined (take m blocks) ++ (rows ++ joined (drop (m + 1) blocks))) both
    ∙ sym (joined-at blocks m d lt)

pub blocks-cut : (kinds : List Kind) (blocks : List Table) (m : ℕ) (d head tail : Table) → m < length blocks → AreBlocks kinds blocks
    → head.rows ++ tail.rows ≡ (get_or blocks m d).rows → head.kinds ≡ kinds → tail.kinds ≡ kinds → 0 < length head.rows
    → 0 < length tail.rows
    → AreBlocks kinds (slice_set (insert blocks (m + 1) tail) m head)
blocks-cut kinds blocks m d head tail lt are both head_kinds tail_kinds head_some tail_some =
    let le : m + 1 ≤ length blocks = omega arith in
    let many = length-insert blocks (m + 1) tail le in
    let all = insert blocks (m + 1) tail in
    let within : m < length all = omega (arith, many) in
    let same = length-set all m head in
    let Kind_is = λ (block : Table). block.kinds ≡ kinds in
    let Has = λ (block : Table). 0 < length block.rows in
    record {
      alike = λ k e few. each-set Kind_is all m head within
          (λ k e few. each-insert Kind_is blocks (m + 1) tail le are.alike tail_kinds k e (omega (arith, many, few))) head_kinds k e
          (omega (arith, same, few));
      some = λ k e few. each-set Has all m head within
          (λ k e few. each-insert Has blocks (m + 1) tail le are.some tail_some k e (omega (arith, many, few))) head_some k e
          (omega (arith, same, few));
      rise = subst Rising (sym (joined-cut blocks m d head tail lt both)) are.rise;
    }

-- The index of entries, one entry on.
use Rattle.std.proofs.Common.{◌≡◌, ℕ, zero, suc, ◌+◌, ◌<◌, Bool, true, false, cond, ◌&&◌, ◌==◌, not, List, [], ◌∷◌, ◌++◌, length, Option}
use Rattle.std.proofs.Common.{None, Some, slice_get, refl, sym, ap, ◌∙◌, arith}
use Rattle.std.specs.List.{filter, AllByRecursion}
use Rattle.std.specs.Map.{lookup}
use Rattle.std.proofs.lemmas.List.{length_push}
use Rattle.rows.specs.declared.entry.Entry.{Entry}
use Rattle.rows.specs.declared.value.Value.{Value}
use Rattle.rows.specs.Shape.{Shape}
use Rattle.rows.specs.declared.row_id.RowId.{RowId}
use Rattle.rows.specs.Entries.{table_of, row_of}
use Rattle.rows.specs.Commits.{is_of}
use Rattle.mvcc.specs.Inner.Keys.{is_key_of, adds_column, AreOfRows}
use Rattle.mvcc.proofs.Keys.{of-parts}
use Rattle.rows.specs.RowAfter.{row_after_fit}
use Rattle.mvcc.specs.Inner.OwnRows.{RowIndices, indices_at, picked, supersedes, is_superseded, kept_indices, IsIndexOf}
use Rattle.std.proofs.lemmas.Option.{same_Some}
use Rattle.mvcc.proofs.Effects.{step, superseded, other_row, row_after_fit-push}

abbrev or_none : Option (List ℕ) → List ℕ
or_none None = []
or_none (Some indices) = indices

indices-get : (rows : RowIndices) (table row : ℕ) → indices_at rows table row ≡ or_none (lookup (is_key_of table row) rows)
indices-get rows table row = by (lookup (is_key_of table row) rows) refl
  where
    by : (found : Option (List ℕ)) → lookup (is_key_of table row) rows ≡ found
        → indices_at rows table row ≡ or_none (lookup (is_key_of table row) rows)
    by None e = rw e refl
    by (Some indices) e = rw e refl

-- the indices of a row once those of one row were replaced in the map
pub indices-put : (rows after : RowIndices) (table row : ℕ) (indices : List ℕ)
    → ((t r : ℕ) → lookup (is_key_of t r) after ≡ cond ((table == t) && (row == r)) (Some indices) (lookup (is_key_of t r) rows))
    → (t r : ℕ) → indices_at after t r ≡ cond ((table == t) && (row == r)) indices (indices_at rows t r)
indices-put rows after table row indices h t r =
    indices-get after t r
    ∙ ap or_none (h t r)
    ∙ by ((table == t) && (row == r)) (lookup (is_key_of t r) rows)
    ∙ ap (cond ((table == t) && (row == r)) indices) (sym (indices-get rows t r))
  where
    by : (here : Bool) (found : Option (List ℕ)) → or_none (cond here (Some indices) found) ≡ cond here indices (or_none found)
    by true found = refl
    by false found = refl

-- an entry of a longer list, and the last one
slice_get-push : (entries : List Entry) (entry : Entry) (index : ℕ) → index < length entries
    → slice_get (entries ++ entry ∷ []) index ≡ slice_get entries index
slice_get-push [] entry index h = absurd (omega arith)
slice_get-push (first ∷ entries) entry zero h = refl
slice_get-push (first ∷ entries) entry (suc index) h = slice_get-push entries entry index (omega arith)

slice_get-last : (entries : List Entry) (entry : Entry) → slice_get (entries ++ entry ∷ []) (length entries) ≡ Some entry
slice_get-last [] entry = refl
slice_get-last (first ∷ entries) entry = slice_get-last entries entry

-- an entry before others, where there is one
abbrev pub before : Option Entry → List Entry → List Entry
before None others = others
before (Some entry) others = entry ∷ others

pub picked-cons : (entries : List Entry) (index : ℕ) (indices : List ℕ)
    → picked entries (index ∷ indices) ≡ before (slice_get entries index) (picked entries indices)
picked-cons entries index indices = by (slice_get entries index) refl
  where
    by : (found : Option Entry) → slice_get entries index ≡ found
        → picked entries (index ∷ indices) ≡ before (slice_get entries index) (picked entries indices)
    by None e = rw e refl
    by (Some entry) e = rw e refl

before-append : (found : Option Entry) (others more : List Entry) → before found (others ++ more) ≡ before found others ++ more
before-append None others more = refl
before-append (Some entry) others more = refl

-- the entries at indices of a longer list
picked-longer : (entries : List Entry) (entry : Entry) (indices : List ℕ) → AllByRecursion (λ index. index < length entries) indices
    → picked (entries ++ entry ∷ []) indices ≡ picked entries indices
picked-longer entries entry [] h = refl
picked-longer entries entry (index ∷ indices) h =
    picked-cons (entries ++ entry ∷ []) index indices
    ∙ ap (λ found. before found (picked (entries ++ entry ∷ []) indices)) (slice_get-push entries entry index h.0)
    ∙ ap (before (slice_get entries index)) (picked-longer entries entry indices h.1)
    ∙ sym (picked-cons entries index indices)

-- those at the same indices and the last
picked-push : (entries : List Entry) (entry : Entry) (indices : List ℕ) → AllByRecursion (λ index. index < length entries) indices
    → picked (entries ++ entry ∷ []) (indices ++ length entries ∷ []) ≡ picked entries indices ++ entry ∷ []
picked-push entries entry [] h =
    picked-cons (entries ++ entry ∷ []) (length entries) [] ∙ ap (λ found. before found []) (slice_get-last entries entry)
picked-push entries entry (index ∷ indices) h =
    picked-cons (entries ++ entry ∷ []) index (indices ++ length entries ∷ [])
    ∙ ap (λ found. before found (picked (entries ++ entry ∷ []) (indices ++ length entries ∷ []))) (slice_get-push entries entry index h.0)
    ∙ ap (before (slice_get entries index)) (picked-push entries entry indices h.1)
    ∙ before-append (slice_get entries index) (picked entries indices) (entry ∷ [])
    ∙ ap (λ others. others ++ entry ∷ []) (sym (picked-cons entries index indices))

-- those at the indices that are kept
picked-kept : (entries : List Entry) (entry : Entry) (indices : List ℕ)
    → picked entries (kept_indices entries entry indices) ≡ filter (λ earlier. not (supersedes entry earlier)) (picked entries indices)
picked-kept entries entry [] = refl
picked-kept entries entry (index ∷ indices) = by (picked-kept entries entry indices) (slice_get entries index) refl
  where
    over : (earlier : Entry) → slice_get entries index ≡ Some earlier
        → picked entries (kept_indices entries entry indices) ≡ filter (λ earlier. not (supersedes entry earlier)) (picked entries indices)
        → (gone : Bool)
        → picked entries (cond (not gone) (index ∷ kept_indices entries entry indices) (kept_indices entries entry indices))
        ≡ cond (not gone)
        (earlier ∷ filter (λ earlier. not (supersedes entry earlier)) (picked entries indices))
        (filter (λ earlier. not (supersedes entry earlier)) (picked entries indices))
    over earlier e others true = others
    over earlier e others false =
        picked-cons entries index (kept_indices entries entry indices)
        ∙ ap (λ found. before found (picked entries (kept_indices entries entry indices))) e ∙ ap (λ others. earlier ∷ others) others

    none-over : slice_get entries index ≡ None → is_superseded entries entry index ≡ false
    none-over e = rw e refl

    some-over : (earlier : Entry) → slice_get entries index ≡ Some earlier → is_superseded entries entry index ≡ supersedes entry earlier
    some-over earlier e = rw e refl

    by : picked entries (kept_indices entries entry indices) ≡ filter (λ earlier. not (supersedes entry earlier)) (picked entries indices)
        → (found : Option Entry) → slice_get entries index ≡ found
        → picked entries (kept_indices entries entry (index ∷ indices)) ≡ filter (λ earlier. not (supersedes entry earlier))
        (picked entries (index ∷ indices))
    by others None e =
        ap (λ gone. picked entries (cond (not gone) (index ∷ kept_indices entries entry indices) (kept_indices entries entry indices)))
        (none-over e)
        ∙ picked-cons entries index (kept_indices entries entry indices)
        ∙ ap (λ found. before found (picked entries (kept_indices entries entry indices))) e
        ∙ others
        ∙ sym (ap (filter (λ earlier. not (supersedes entry earlier)))
        (picked-cons entries index indices ∙ ap (λ found. before found (picked entries indices)) e))
    by others (Some earlier) e =
        ap (λ gone. picked entries (cond (not gone) (index ∷ kept_indices entries entry indices) (kept_indices entries entry indices)))
        (some-over earlier e)
        ∙ over earlier e others (supersedes entry earlier)
        ∙ sym (ap (filter (λ earlier. not (supersedes entry earlier)))
        (picked-cons entries index indices ∙ ap (λ found. before found (picked entries indices)) e))

-- entries that are picked from entries of rows are of rows
of-get : (entries : List Entry) (index : ℕ) (entry : Entry) → AreOfRows entries → slice_get entries index ≡ Some entry
    → adds_column entry ≡ false
of-get [] index entry of h = absurd cc
of-get (first ∷ entries) zero entry of h = ap adds_column (sym (same_Some first entry h)) ∙ of.0
of-get (first ∷ entries) (suc index) entry of h = of-get entries index entry of.1 h

pub of-picked : (entries : List Entry) (indices : List ℕ) → AreOfRows entries → AreOfRows (picked entries indices)
of-picked entries [] of = tt
of-picked entries (index ∷ indices) of =
    rw (picked-cons entries index indices) (by (of-picked entries indices of) (slice_get entries index) refl)
  where
    by : AreOfRows (picked entries indices) → (found : Option Entry) → slice_get entries index ≡ found
        → AreOfRows (before found (picked entries indices))
    by others None e = others
    by others (Some entry) e = (of-get entries index entry of e, others)

pub of-push : (entries : List Entry) (entry : Entry) → AreOfRows entries → adds_column entry ≡ false → AreOfRows (entries ++ entry ∷ [])
of-push [] entry of h = (h, tt)
of-push (first ∷ entries) entry of h = (of.0, of-push entries entry of.1 h)

-- indices that are kept are within the list, and within a longer one
within-kept : (P : ℕ → Type 0) (test : ℕ → Bool) (indices : List ℕ) → AllByRecursion P indices → AllByRecursion P (filter test indices)
within-kept P test [] h = tt
within-kept P test (index ∷ indices) h = by (within-kept P test indices h.1) (test index)
  where
    by : AllByRecursion P (filter test indices) → (here : Bool)
        → AllByRecursion P (cond here (index ∷ filter test indices) (filter test indices))
    by others true = (h.0, others)
    by others false = others

within-longer : (count : ℕ) (indices : List ℕ) → AllByRecursion (λ index. index < count) indices
    → AllByRecursion (λ index. index < count + 1) indices
within-longer count [] h = tt
within-longer count (index ∷ indices) h = (omega (arith, h.0), within-longer count indices h.1)

within-push : (count : ℕ) (indices : List ℕ) → AllByRecursion (λ index. index < count) indices
    → AllByRecursion (λ index. index < count + 1) (indices ++ count ∷ [])
within-push count [] h = (omega arith, tt)
within-push count (index ∷ indices) h = (omega (arith, h.0), within-push count indices h.1)

-- an index of the entries so far is one of those with one more behind them, once that entry's row has its new indices
pub IsIndexOf-push : (entries : List Entry) (rows after : RowIndices) (entry : Entry) (id : RowId) → row_of entry ≡ Some id
    → AreOfRows entries → IsIndexOf entries rows
    → ((table row : ℕ) → indices_at after table row ≡ cond (is_of table row entry)
    (kept_indices entries entry (indices_at rows (table_of entry) id.0) ++ length entries ∷ []) (indices_at rows table row))
    → IsIndexOf (entries ++ entry ∷ []) after
IsIndexOf-push entries rows after entry id own of is put = record {
  within = λ table row. rw (length_push entries entry, put table row) (within table row (is_of table row entry) refl);
  told = λ table row shape was. rw (put table row) (told table row shape was (is_of table row entry) refl);
}
  where
    within : (table row : ℕ) (here : Bool) → is_of table row entry ≡ here
        → AllByRecursion (λ index. index < length entries + 1)
        (cond here (kept_indices entries entry (indices_at rows (table_of entry) id.0) ++ length entries ∷ [])
        (indices_at rows table row))
    within table row true e =
        within-push (length entries) _ (within-kept _ _ (indices_at rows (table_of entry) id.0)
        (is.within (table_of entry) id.0))
    within table row false e = within-longer (length entries) (indices_at rows table row) (is.within table row)

    told : (table row : ℕ) (shape : Shape) (was : Option (List Value)) (here : Bool) → is_of table row entry ≡ here
        → row_after_fit shape table row
        (picked (entries ++ entry ∷ [])
        (cond here (kept_indices entries entry (indices_at rows (table_of entry) id.0) ++ length entries ∷ [])
        (indices_at rows table row))) was ≡ row_after_fit shape table row (entries ++ entry ∷ []) was
    told table row shape was true e =
        let old = indices_at rows (table_of entry) id.0 in
        let kept = kept_indices entries entry old in
        let at : (table ≡ table_of entry) × (row ≡ id.0) =
        (sym (of-parts table row entry id own e).0, sym (of-parts table row entry id own e).1) in
        let before_it : row_after_fit shape table row (picked entries old) was ≡ row_after_fit shape table row entries was =
        rw (at.0, at.1) (is.told (table_of entry) id.0 shape was) in
        ap (λ entries. row_after_fit shape table row entries was)
        (picked-push entries entry kept
        (within-kept (λ index. index < length entries) _ old (is.within (table_of entry) id.0))
        ∙ ap (λ entries. entries ++ entry ∷ []) (picked-kept entries entry old))
        ∙ superseded shape table row entry (picked entries old) was (of-picked entries old of) e
        ∙ ap (step shape table row entry) before_it
        ∙ sym (row_after_fit-push shape table row entries entry was of)
    told table row shape was false e =
        ap (λ entries. row_after_fit shape table row entries was)
        (picked-longer entries entry (indices_at rows table row) (is.within table row))
        ∙ is.told table row shape was
        ∙ sym (other_row shape table row entry (row_after_fit shape table row entries was) e)
        ∙ sym (row_after_fit-push shape table row entries entry was of)

-- Which rows are there after entries, one entry on.
use Rattle.std.proofs.Common.{◌≡◌, ℕ, ◌+◌, ◌<◌, Bool, true, false, cond, ◌==◌, List, [], ◌∷◌, ◌++◌, length, take, get_or, Some, refl}
use Rattle.std.proofs.Common.{sym, ap, ◌∙◌}
use Rattle.std.specs.Option.{unwrap_or}
use Rattle.std.proofs.lemmas.List.{take_more}
use Rattle.rows.specs.declared.entry.Entry.{Entry}
use Rattle.rows.specs.declared.entry.Entry.TheVariants.{Insert, Patch, Delete, AddColumn}
use Rattle.rows.specs.Entries.{table_of, row_of}
use Rattle.rows.specs.Tables.{is_row_at}
use Rattle.rows.specs.Presence.{left_by, is_there_after_one, is_there_after}
use Rattle.mvcc.specs.VersionList.{VersionList, tables_at}
use Rattle.mvcc.specs.Inner.Keys.{names, of_row}
use Rattle.mvcc.specs.Inner.RowsTold.{Told, told_of, there_in, IsToldAfter}
use Rattle.mvcc.proofs.Keys.{named}

-- a walk over the entries, one step on
is_there_after-push : (table row : ℕ) (entries : List Entry) (entry : Entry) (was : Bool)
    → is_there_after table row (entries ++ entry ∷ []) was ≡ is_there_after_one table row entry (is_there_after table row entries was)
is_there_after-push table row [] entry was = refl
is_there_after-push table row (first ∷ entries) entry was =
    is_there_after-push table row entries entry (is_there_after_one table row first was)

is_there_after-more : (table row : ℕ) (entries : List Entry) (i : ℕ) (entry : Entry) (was : Bool) → i < length entries
    → entry ≡ get_or entries i entry
    → is_there_after table row (take (i + 1) entries) was ≡ is_there_after_one table row entry
    (is_there_after table row (take i entries) was)
is_there_after-more table row entries i entry was h e =
    ap (λ entries. is_there_after table row entries was) (take_more entries i entry h ∙ ap (λ x. take i entries ++ x ∷ []) (sym e))
    ∙ is_there_after-push table row (take i entries) entry was

-- before the first entry nothing is told
pub told-none : (versions : VersionList) (version : ℕ) → IsToldAfter versions version [] []
told-none versions version = record { each = λ t r. refl }

-- an entry changes only whether the row that it names is there
left-named : (t r : ℕ) (entry : Entry) (was : Bool) → is_there_after_one t r entry was ≡ cond (names t r entry) (left_by entry was) was
left-named t r (Insert table row bytes) was = refl
left-named t r (Patch table row offset bytes) was = refl
left-named t r (Delete table row) was = refl
left-named t r (AddColumn table default) was = alike (table == t)
  where
    alike : (b : Bool) → cond b was was ≡ was
    alike true = refl
    alike false = refl

-- one entry more
pub told-more : (versions : VersionList) (version : ℕ) (entries : List Entry) (i : ℕ) (entry : Entry) (there : Bool) (before after : Told)
    → i < length entries → entry ≡ get_or entries i entry
    → IsToldAfter versions version (take i entries) before
    → there ≡ of_row (row_of entry)
    (λ row. there_in before (table_of entry) row (is_row_at (tables_at versions version) (table_of entry) row))
    → ((t r : ℕ) → told_of after t r ≡ cond (names t r entry) (Some (left_by entry there)) (told_of before t r))
    → IsToldAfter versions version (take (i + 1) entries) after
told-more versions version entries i entry there before after h e told was_there put = record { each = each }
  where
    found : (here : Bool) (t r : ℕ) → names t r entry ≡ here
        → there_in after t r (is_row_at (tables_at versions version) t r) ≡ cond here (left_by entry there)
        (there_in before t r (is_row_at (tables_at versions version) t r))
    found true t r e =
        ap (λ f. unwrap_or f (is_row_at (tables_at versions version) t r))
        (put t r ∙ ap (λ b. cond b (Some (left_by entry there)) (told_of before t r)) e)
    found false t r e =
        ap (λ f. unwrap_or f (is_row_at (tables_at versions version) t r))
        (put t r ∙ ap (λ b. cond b (Some (left_by entry there)) (told_of before t r)) e)

    left : (here : Bool) (t r : ℕ) → names t r entry ≡ here
        → cond here (left_by entry there) (there_in before t r (is_row_at (tables_at versions version) t r)) ≡ cond here
        (left_by entry (there_in before t r (is_row_at (tables_at versions version) t r)))
        (there_in before t r (is_row_at (tables_at versions version) t r))
    left false t r e = refl
    left true t r e =
        let own = named t r entry e in
        let same : of_row (row_of entry)
        (λ row. there_in before (table_of entry) row (is_row_at (tables_at versions version) (table_of entry) row))
        ≡ there_in before t r (is_row_at (tables_at versions version) t r) =
        ap (λ id. of_row id
        (λ row. there_in before (table_of entry) row (is_row_at (tables_at versions version) (table_of entry) row))) own.1
        ∙ ap (λ t. there_in before t own.0.0 (is_row_at (tables_at versions version) t own.0.0)) own.2
        ∙ ap (λ r. there_in before t r (is_row_at (tables_at versions version) t r)) own.3 in
        ap (left_by entry) (was_there ∙ same)

    each : (t r : ℕ) → there_in after t r (is_row_at (tables_at versions version) t r) ≡ is_there_after t r (take (i + 1) entries)
        (is_row_at (tables_at versions version) t r)
    each t r =
        found (names t r entry) t r refl
        ∙ left (names t r entry) t r refl
        ∙ sym (left-named t r entry (there_in before t r (is_row_at (tables_at versions version) t r)))
        ∙ ap (is_there_after_one t r entry) (told.each t r)
        ∙ sym (is_there_after-more t r entries i entry (is_row_at (tables_at versions version) t r) h e)

-- Why a commit is refused, by a list that begins the durable one.
use Rattle.std.proofs.Common.{◌≡◌, inl, inr, refl, ap, sym, ◌∙◌, subst, arith}
use Rattle.std.proofs.Common.{ℕ, ◌≤◌, Bool, true, false, not, ◌||◌, ◌==◌, nat_lt, if◌then◌else◌}
use Rattle.std.proofs.Common.{List, [], ◌∷◌, ◌++◌, length, take, Ok, Err}
use Rattle.std.proofs.lemmas.Bool.{ltb-true, eqb-true}
use Rattle.std.proofs.lemmas.List.{take-append-le}
use mathlib.Core.List.{IsPrefix}
use Rattle.rows.specs.declared.commit.Commit.{Commit}
use Rattle.rows.specs.declared.entry.Entry.{Entry}
use Rattle.rows.specs.declared.kind.Kind.{Kind}
use Rattle.rows.specs.Commits.{last_touching, tables_after}
use Rattle.rows.specs.Faults.{IsFaultOf}
use Rattle.rows.specs.Shape.{Shape, shape_of}
use Rattle.rows.specs.Tables.{apply_entries}
use Rattle.std.specs.Result.{is_ok}
use Rattle.mvcc.specs.VersionList.{defined_at}
use Rattle.mvcc.specs.Transaction.{Transaction}
use Rattle.primary.specs.State.{Primary}
use Rattle.primary.specs.Steps.{commit_answer, is_foreign, has_numbers, next_number}
use Rattle.primary.specs.declared.faults.CommitFault.{CommitFault}
use Rattle.primary.specs.declared.faults.CommitFault.TheVariants.{Conflict, ReadOnly, Failed, NumbersUsedUp, Foreign, Memory}
use Rattle.desk.specs.Answers.{IsCommitRefusal}
use Rattle.desk.proofs.Beginnings.{prefix_length}

none-of : (entries : List Entry) → (length entries == 0) ≡ true → entries ≡ []
none-of [] e = refl
none-of (entry ∷ entries) e = absurd (omega (arith, eqb-true (length (entry ∷ entries)) 0 e))

-- the rows at a version of a list are those of a list that it begins
tables-begun : (shape : Shape) (list all : List Commit) (version : ℕ) → IsPrefix list all → version ≤ length list
    → tables_after shape list version ≡ tables_after shape all version
tables-begun shape list all version begins le =
    rw (sym (ap (take version) (sym begins.1) ∙ take-append-le version list begins.0 le)) refl

defined-begun : (schema : List (List ℕ × List Kind)) (list all : List Commit) (version : ℕ) (entries : List Entry) → IsPrefix list all
    → version ≤ length list
    → defined_at (record { schema = schema; commits = list }) version entries
    ≡ defined_at (record { schema = schema; commits = all }) version entries
defined-begun schema list all version entries begins le =
    ap (λ tables. is_ok (apply_entries tables entries)) (tables-begun (shape_of schema) list all version begins le)

-- a transaction that is foreign is not defined in its place, if its snapshot is within the list
foreign-seen : (p : Primary) (schema : List (List ℕ × List Kind)) (list : List Commit) (draft : Transaction) → p.schema ≡ schema
    → IsPrefix list p.durable → is_foreign p draft ≡ true → draft.snapshot ≤ length list
    → ¬ (defined_at (record { schema = schema; commits = list }) draft.snapshot draft.entries ≡ true)
foreign-seen p schema list draft same begins foreign le is =
    by (nat_lt (length p.durable) draft.snapshot) refl
  where
    here : defined_at (record { schema = p.schema; commits = p.durable }) draft.snapshot draft.entries ≡ true
    here =
        ap (λ s. defined_at (record { schema = s; commits = p.durable }) draft.snapshot draft.entries) same
        ∙ (sym (defined-begun schema list p.durable draft.snapshot draft.entries begins le) ∙ is)

    by : (above : Bool) → nat_lt (length p.durable) draft.snapshot ≡ above → ⊥
    by true e =
        let lt = ltb-true (length p.durable) draft.snapshot e in
        let l = prefix_length list p.durable begins in
        absurd (omega (arith, lt, l, le))
    by false e =
        let own = defined_at (record { schema = p.schema; commits = p.durable }) draft.snapshot draft.entries in
        absurd (cc (sym foreign ∙ (ap (λ b. b || not own) e ∙ ap not here)))

by_answer : (p : Primary) (worker : ℕ) (schema : List (List ℕ × List Kind)) (list : List Commit) (draft : Transaction) (fault : CommitFault)
    → p.schema ≡ schema → IsPrefix list p.durable → commit_answer p worker draft ≡ Err fault
    → IsCommitRefusal schema list draft fault
by_answer p worker schema list draft fault same begins is =
    by p.failed (length draft.entries == 0) (is_foreign p draft)
    (nat_lt draft.snapshot (last_touching draft.entries 0 (p.durable ++ p.pending))) (has_numbers p worker draft.entries)
    refl refl refl refl refl is
  where
    newest : ℕ
    newest = last_touching draft.entries 0 (p.durable ++ p.pending)

    by : (failed empty foreign behind numbers : Bool) → p.failed ≡ failed → (length draft.entries == 0) ≡ empty
        → is_foreign p draft ≡ foreign
        → nat_lt draft.snapshot newest ≡ behind → has_numbers p worker draft.entries ≡ numbers
        → (if failed then Err Failed else if empty then Err ReadOnly else if foreign then Err Foreign else if behind
        then Err (Conflict newest) else if numbers then Ok (next_number p) else Err NumbersUsedUp) ≡ Err fault
        → IsCommitRefusal schema list draft fault
    by true empty foreign behind numbers a b c d e is = let f : Failed ≡ fault = cc is in subst (IsCommitRefusal schema list draft) f tt
    by false true foreign behind numbers a b c d e is =
        let f : ReadOnly ≡ fault = cc is in subst (IsCommitRefusal schema list draft) f (none-of draft.entries b)
    by false false true behind numbers a b c d e is =
        let f : Foreign ≡ fault = cc is in
        subst (IsCommitRefusal schema list draft) f (foreign-seen p schema list draft same begins c)
    by false false false true numbers a b c d e is =
        let f : Conflict newest ≡ fault = cc is in subst (IsCommitRefusal schema list draft) f (ltb-true draft.snapshot newest d)
    by false false false false true a b c d e is = absurd (cc is)
    by false false false false false a b c d e is =
        let f : NumbersUsedUp ≡ fault = cc is in subst (IsCommitRefusal schema list draft) f tt

pub refused_seen : (p : Primary) (worker : ℕ) (schema : List (List ℕ × List Kind)) (list : List Commit) (draft : Transaction)
    (fault : CommitFault)
    → p.schema ≡ schema → IsPrefix list p.durable → IsFaultOf (commit_answer p worker draft) Memory fault
    → IsCommitRefusal schema list draft fault
refused_seen p worker schema list draft fault same begins (inl memory) = subst (IsCommitRefusal schema list draft) (sym memory.0) tt
refused_seen p worker schema list draft fault same begins (inr is) = by_answer p worker schema list draft fault same begins is

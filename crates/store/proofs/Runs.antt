-- Runs of entries, one entry after the other.
use Rattle.std.proofs.Common.{◌≡◌, ℕ, suc, zero, true, cond, ◌==◌, List, [], ◌∷◌, ◌++◌, length, take, nat_lt}
use Rattle.std.proofs.Common.{Option, None, Some, Result, Ok, Err, slice_get, refl, arith}
use Rattle.std.specs.Option.{IsSomeAnd}
use Rattle.std.specs.Result.{IsErr}
use Rattle.std.proofs.lemmas.Bool.{false≢true}
use Rattle.std.proofs.lemmas.Bool.Decides.{nat_tests}
use Rattle.rows.specs.declared.entry.Entry.{Entry}
use Rattle.rows.specs.Tables.{Tables, Refusal, Unfit, Exists, Missing, apply_entry, apply_entries, and_then}
use Rattle.store.specs.Changes.{StopsAt, fault_kind}
use Rattle.store.specs.declared.faults.ApplyFault.TheVariants as apply
use Rattle.store.specs.declared.faults.StoreFault.TheVariants.{Memory}
use Rattle.store.specs.Faults.{FailsAs, number_of}

-- a change that is made after those that were made
and_then-step : (entries : List Entry) (entry : Entry) (change : Result Tables Refusal) (between after : Tables)
    → ((middle : Tables) → apply_entries middle entries ≡ Ok between → apply_entries middle (entries ++ entry ∷ []) ≡ Ok after)
    → and_then (λ middle. apply_entries middle entries) change ≡ Ok between
    → and_then (λ middle. apply_entries middle (entries ++ entry ∷ [])) change ≡ Ok after
and_then-step entries entry (Ok middle) between after more h = more middle h
and_then-step entries entry (Err refusal) between after more h = cc

-- one more entry behind those that were made
pub apply_entries-push : (tables between after : Tables) (entries : List Entry) (entry : Entry)
    → apply_entries tables entries ≡ Ok between → apply_entry between entry ≡ Ok after
    → apply_entries tables (entries ++ entry ∷ []) ≡ Ok after
apply_entries-push tables between after [] entry before made =
    let same : tables ≡ between = cc in
    let start : apply_entry tables entry ≡ Ok after = rw same made in
    rw start
apply_entries-push tables between after (first ∷ entries) entry before made =
    and_then-step entries entry (apply_entry tables first) between after
    (λ middle h. apply_entries-push middle between after entries entry h made) before

-- entries of which one is refused after those before it
stops : (entries : List Entry) (old new : Tables) (i : ℕ) (entry : Entry) → apply_entries old (take i entries) ≡ Ok new
    → slice_get entries i ≡ Some entry → IsErr (apply_entry new entry) → IsErr (apply_entries old entries)
stops [] old new i entry before there refused = cc
stops (first ∷ entries) old new zero entry before there refused =
    let same : old ≡ new = cc in
    let here : first ≡ entry = cc in
    refuses (apply_entry old first) (rw (same, here) refused)
  where
    refuses : (change : Result Tables Refusal) → IsErr change → IsErr (and_then (λ after. apply_entries after entries) change)
    refuses (Ok after) h = absurd (false≢true h)
    refuses (Err refusal) h = h
stops (first ∷ entries) old new (suc i) entry before there refused =
    goes (λ middle before. stops entries middle new i entry before there refused) (apply_entry old first) before
  where
    goes : ((middle : Tables) → apply_entries middle (take i entries) ≡ Ok new → IsErr (apply_entries middle entries))
        → (change : Result Tables Refusal) → and_then (λ after. apply_entries after (take i entries)) change ≡ Ok new
        → IsErr (and_then (λ after. apply_entries after entries) change)
    goes rest (Ok middle) before = rest middle before
    goes rest (Err refusal) before = cc

-- why a run of a whole store stopped
pub stops-as : (old new : Tables) (entries : List Entry) (i kind : ℕ) → StopsAt true old new entries i kind
    → FailsAs true (nat_lt 0 (length entries)) (apply_entries old entries)
    (cond (kind == number_of Memory) apply.Memory apply.Inconsistent)
stops-as old new entries i kind stop = by (slice_get entries i) refl stop.refused
  where
    by : (found : Option Entry) → slice_get entries i ≡ found
        → IsSomeAnd found (λ entry. kind ≡ fault_kind true (apply_entry new entry))
        → FailsAs true (nat_lt 0 (length entries)) (apply_entries old entries)
        (cond (kind == number_of Memory) apply.Memory apply.Inconsistent)
    by None e none = absurd none
    by (Some entry) e is = told (apply_entry new entry) refl is
      where
        told : (change : Result Tables Refusal) → apply_entry new entry ≡ change → kind ≡ fault_kind true change
            → FailsAs true (nat_lt 0 (length entries)) (apply_entries old entries)
            (cond (kind == number_of Memory) apply.Memory apply.Inconsistent)
        told (Ok after) made is = rw is (refl, (let lt = stop.within in grind (arith, nat_tests, lt)))
        told (Err Exists) made is = rw is (refl, stops entries old new i entry stop.before e (rw made refl))
        told (Err Missing) made is = rw is (refl, stops entries old new i entry stop.before e (rw made refl))
        told (Err Unfit) made is = rw is (refl, stops entries old new i entry stop.before e (rw made refl))

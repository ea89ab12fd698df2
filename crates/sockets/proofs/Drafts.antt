-- Drafts, and why steps are refused, on a list and on a longer one.
use Rattle.std.proofs.Common.{◌≡◌, refl, ap, sym, ◌∙◌, subst, arith, ℕ, suc, ◌+◌, ◌<◌, ◌≤◌, Bool, true, false, not, nat_lt, if◌then◌else◌}
use Rattle.std.proofs.Common.{List, [], ◌∷◌, ◌++◌, length, get_or, drop, drop-cons, Result, Ok, Err, Some, slice_get, is_some, is_ok}
use Rattle.std.proofs.Common.{inl, inr}
use Rattle.std.proofs.Math.Numerals.{suc-eq-add-one}
use mathlib.Core.List.{IsPrefix}
use Rattle.rows.specs.declared.commit.Commit.{Commit}
use Rattle.rows.specs.declared.entry.Entry.{Entry}
use Rattle.rows.specs.declared.entry.Entry.TheVariants as entries
use Rattle.rows.specs.Entries.{addable}
use Rattle.rows.specs.Faults.{IsFaultOf}
use Rattle.rows.specs.Limits.{commit_entries_max}
use Rattle.rows.specs.Values.{value_bytes, bytes_of}
use Rattle.rows.specs.Shape.{Shape}
use Rattle.mvcc.specs.declared.faults.TxFault.{TxFault}
use Rattle.mvcc.specs.declared.faults.TxFault.TheVariants.{Exists, Missing, Unfit, TooManyEntries, Memory}
use Rattle.mvcc.specs.Transaction.{Transaction}
use Rattle.mvcc.specs.Transactions.{get_answer, match_table, match_column, column_kind, column_offset, seen_shape, sees}
use Rattle.primary.specs.declared.ticket.Ticket.{Ticket}
use Rattle.desk.specs.Answers.{Stands}
use Rattle.sockets.specs.declared.change.Change.{Change}
use Rattle.sockets.specs.declared.change.Change.TheVariants.{Insert, Set, Delete, AddColumn}
use Rattle.sockets.specs.declared.drafting.Stop.{Stop}
use Rattle.sockets.specs.declared.drafting.Stop.TheVariants as stops
use Rattle.sockets.specs.declared.job.Job.{Job}
use Rattle.sockets.specs.declared.refusal.Refusal.{Refusal}
use Rattle.sockets.specs.declared.refusal.Refusal.TheVariants as refusals
use Rattle.sockets.specs.declared.step.Step.{Step}
use Rattle.sockets.specs.declared.step.Step.TheVariants as steps
use Rattle.sockets.specs.Answers.{IsDraft, IsCommitted, IsStepRefused, IsRefused}
use Rattle.sockets.specs.Changes.{change_answer, condition_answer, has_value, is_missing, refused_at, step_answer, steps_answer, and_then}
use Rattle.sockets.specs.Inner.Jobs.{IsStop, IsStopped}
use Rattle.sockets.specs.JobSeats.{IsPending}
use Rattle.sockets.proofs.Beginnings.{prefix_length, take-begun}

-- a change answers the same on a longer list, since the rows at its snapshot are the same
pub change-begun : (shape : Shape) (list all : List Commit) (draft : Transaction) (change : Change) → IsPrefix list all
    → draft.snapshot ≤ length list → change_answer shape list draft change ≡ change_answer shape all draft change
change-begun shape list all draft (Insert table row values) begins le = rw (take-begun draft.snapshot list all begins le) refl
change-begun shape list all draft (Set table row column value) begins le = rw (take-begun draft.snapshot list all begins le) refl
change-begun shape list all draft (Delete table row) begins le = rw (take-begun draft.snapshot list all begins le) refl
change-begun shape list all draft (AddColumn table default) begins le = rw (take-begun draft.snapshot list all begins le) refl

-- a change that may be refused for two reasons, and for want of room, keeps the snapshot
kept-by : (first second room : Bool) (draft next : Transaction) (entries : List Entry) (f g h : TxFault)
    → (if first then Err f else if second then Err g else if room then Ok (record draft { entries = entries }) else Err h) ≡ Ok next
    → next.snapshot ≡ draft.snapshot
kept-by true second room draft next entries f g h is = absurd (cc is)
kept-by false true room draft next entries f g h is = absurd (cc is)
kept-by false false true draft next entries f g h is =
    let same : record draft { entries = entries } ≡ next = cc is in sym (ap (λ t. t.snapshot) same)
kept-by false false false draft next entries f g h is = absurd (cc is)

pub change-kept : (shape : Shape) (list : List Commit) (draft next : Transaction) (change : Change)
    → change_answer shape list draft change ≡ Ok next → next.snapshot ≡ draft.snapshot
change-kept shape list draft next (Insert table row values) is =
    kept-by (not (match_table values (slice_get (seen_shape shape list draft) table))) (sees shape list draft table row.0)
    (nat_lt (length draft.entries) commit_entries_max) draft next
    (draft.entries ++ entries.Insert table row (bytes_of values) ∷ []) Unfit Exists TooManyEntries is
change-kept shape list draft next (Set table row column value) is =
    kept-by (not (match_column value (column_kind (seen_shape shape list draft) table column)))
    (not (sees shape list draft table row.0)) (nat_lt (length draft.entries) commit_entries_max) draft next
    (draft.entries ++ entries.Patch table row (column_offset (seen_shape shape list draft) table column) (value_bytes value) ∷ [])
    Unfit Missing TooManyEntries is
change-kept shape list draft next (Delete table row) is =
    kept-by (not (is_some (slice_get (seen_shape shape list draft) table))) (not (sees shape list draft table row.0))
    (nat_lt (length draft.entries) commit_entries_max) draft next (draft.entries ++ entries.Delete table row ∷ [])
    Unfit Missing TooManyEntries is
change-kept shape list draft next (AddColumn table default) is =
    kept-by (not (is_ok (addable (slice_get (seen_shape shape list draft) table) default))) false
    (nat_lt (length draft.entries) commit_entries_max) draft next (draft.entries ++ entries.AddColumn table default ∷ [])
    Unfit Missing TooManyEntries is

-- a look answers the same on a longer list
look-begun : (shape : Shape) (list all : List Commit) (draft : Transaction) (table row column : ℕ) → IsPrefix list all
    → draft.snapshot ≤ length list → get_answer shape list draft table row column ≡ get_answer shape all draft table row column
look-begun shape list all draft table row column begins le = rw (take-begun draft.snapshot list all begins le) refl

-- so does a step
pub step-begun : (shape : Shape) (list all : List Commit) (number : ℕ) (draft : Transaction) (step : Step) → IsPrefix list all
    → draft.snapshot ≤ length list → step_answer shape list number draft step ≡ step_answer shape all number draft step
step-begun shape list all number draft (steps.Change change) begins le =
    ap (refused_at number) (change-begun shape list all draft change begins le)
step-begun shape list all number draft (steps.Expect table row column value) begins le =
    ap (λ found. condition_answer number (has_value value found) draft) (look-begun shape list all draft table row.0 column begins le)
step-begun shape list all number draft (steps.Absent table row) begins le =
    ap (λ found. condition_answer number (is_missing found) draft) (look-begun shape list all draft table row.0 0 begins le)

made-at : (number : ℕ) (answer : Result Transaction TxFault) (next : Transaction) → refused_at number answer ≡ Ok next
    → answer ≡ Ok next
made-at number (Ok draft) next is = let same : draft ≡ next = cc is in ap Ok same
made-at number (Err fault) next is = absurd (cc is)

held-at : (number : ℕ) (holds : Bool) (draft next : Transaction) → condition_answer number holds draft ≡ Ok next → draft ≡ next
held-at number true draft next is = cc is
held-at number false draft next is = absurd (cc is)

-- a step keeps the snapshot
pub step-kept : (shape : Shape) (list : List Commit) (number : ℕ) (draft next : Transaction) (step : Step)
    → step_answer shape list number draft step ≡ Ok next → next.snapshot ≡ draft.snapshot
step-kept shape list number draft next (steps.Change change) is =
    change-kept shape list draft next change (made-at number (change_answer shape list draft change) next is)
step-kept shape list number draft next (steps.Expect table row column value) is =
    sym (ap (λ t. t.snapshot)
    (held-at number (has_value value (get_answer shape list draft table row.0 column)) draft next is))
step-kept shape list number draft next (steps.Absent table row) is =
    sym (ap (λ t. t.snapshot) (held-at number (is_missing (get_answer shape list draft table row.0 0)) draft next is))

-- two ways on, which are one after each draft with this snapshot
same-after : (draft : Transaction) (one other : Transaction → Result Transaction Refusal)
    → ((next : Transaction) → next.snapshot ≡ draft.snapshot → one next ≡ other next) → (answer : Result Transaction Refusal)
    → ((next : Transaction) → answer ≡ Ok next → next.snapshot ≡ draft.snapshot) → and_then one answer ≡ and_then other answer
same-after draft one other same (Ok next) kept = same next (kept next refl)
same-after draft one other same (Err refusal) kept = refl

-- steps answer the same on a longer list
pub steps-begun : (shape : Shape) (list all : List Commit) (number : ℕ) (draft : Transaction) (steps : List Step) → IsPrefix list all
    → draft.snapshot ≤ length list → steps_answer shape list number draft steps ≡ steps_answer shape all number draft steps
steps-begun shape list all number draft [] begins le = refl
steps-begun shape list all number draft (step ∷ steps) begins le =
    same-after draft (λ next. steps_answer shape list (number + 1) next steps) (λ next. steps_answer shape all (number + 1) next steps)
    (λ next kept. steps-begun shape list all (number + 1) next steps begins (omega (arith, kept, le)))
    (step_answer shape list number draft step) (λ next is. step-kept shape list number draft next step is)
    ∙ ap (and_then (λ next. steps_answer shape all (number + 1) next steps)) (step-begun shape list all number draft step begins le)

pub draft-begun : (shape : Shape) (first from : ℕ) (list all : List Commit) (steps : List Step) (draft : Transaction) → first ≤ from
    → IsPrefix list all → IsDraft shape from list steps draft → IsDraft shape first all steps draft
draft-begun shape first from list all steps draft le begins d = record {
  begun = omega (arith, le, d.begun);
  within = (let l = prefix_length list all begins in omega (arith, d.within, l));
  made = sym (steps-begun shape list all 0 (record { snapshot = draft.snapshot; entries = [] }) steps begins d.within) ∙ d.made;
}

step_refused-begun : (shape : Shape) (first from : ℕ) (list all : List Commit) (steps : List Step) (refusal : Refusal) → first ≤ from
    → IsPrefix list all → IsStepRefused shape from list steps refusal → IsStepRefused shape first all steps refusal
step_refused-begun shape first from list all steps refusal le begins r = record {
  version = r.version;
  begun = omega (arith, le, r.begun);
  within = (let l = prefix_length list all begins in omega (arith, r.within, l));
  refused = sym (steps-begun shape list all 0 (record { snapshot = r.version; entries = [] }) steps begins r.within) ∙ r.refused;
}

-- steps are refused for the same reason on a longer list
pub refused-begun : (shape : Shape) (first from : ℕ) (list all : List Commit) (steps : List Step) (refusal : Refusal) → first ≤ from
    → IsPrefix list all → IsRefused shape from list steps refusal → IsRefused shape first all steps refusal
refused-begun shape first from list all steps (refusals.Change step fault) le begins r =
    step_refused-begun shape first from list all steps (refusals.Change step fault) le begins r
refused-begun shape first from list all steps (refusals.Condition step) le begins r =
    step_refused-begun shape first from list all steps (refusals.Condition step) le begins r
refused-begun shape first from list all steps refusals.NoChange le begins r =
    (r.0, draft-begun shape first from list all steps r.0 le begins r.1, r.2)
refused-begun shape first from list all steps refusals.Unread le begins r = tt
refused-begun shape first from list all steps refusals.NumbersUsedUp le begins r =
    (r.0, draft-begun shape first from list all steps r.0 le begins r.1)
refused-begun shape first from list all steps refusals.Foreign le begins r = (
  r.0,
  draft-begun shape first from list all steps r.0 le begins r.1,
  λ is. r.2 (rw (take-begun r.0.snapshot list all begins r.1.within) is),
)

-- the steps from the next on, which is there
next-step : (steps : List Step) (i : ℕ) (step : Step) → i < length steps → step ≡ get_or steps i step
    → drop i steps ≡ step ∷ drop (i + 1) steps
next-step steps i step lt is =
    drop-cons steps i step lt
    ∙ (ap (λ found. found ∷ drop (suc i) steps) (sym is) ∙ ap (λ n. step ∷ drop n steps) (suc-eq-add-one i))

-- one step more, on a longer list: what is left of them goes on from what it made
pub one-more : (shape : Shape) (list all : List Commit) (draft next : Transaction) (steps : List Step) (i : ℕ) (step : Step)
    → IsPrefix list all → draft.snapshot ≤ length list → i < length steps → step ≡ get_or steps i step
    → step_answer shape list i draft step ≡ Ok next
    → steps_answer shape all i draft (drop i steps) ≡ steps_answer shape all (i + 1) next (drop (i + 1) steps)
one-more shape list all draft next steps i step begins le lt is ok =
    ap (steps_answer shape all i draft) (next-step steps i step lt is)
    ∙ ap (and_then (λ made. steps_answer shape all (i + 1) made (drop (i + 1) steps))) (
    sym (step-begun shape list all i draft step begins le) ∙ ok)

-- a step that is refused ends the steps with that refusal
pub one-refused : (shape : Shape) (list : List Commit) (draft : Transaction) (steps : List Step) (i : ℕ) (step : Step)
    (refusal : Refusal) → i < length steps → step ≡ get_or steps i step → step_answer shape list i draft step ≡ Err refusal
    → steps_answer shape list i draft (drop i steps) ≡ Err refusal
one-refused shape list draft steps i step refusal lt is refused =
    ap (steps_answer shape list i draft) (next-step steps i step lt is)
    ∙ ap (and_then (λ made. steps_answer shape list (i + 1) made (drop (i + 1) steps))) refused

-- whether a refusal is that of a step
OfStep : Refusal → Type 0
OfStep (refusals.Change step fault) = Unit {0}
OfStep (refusals.Condition step) = Unit {0}
OfStep refusals.NoChange = ⊥
OfStep refusals.Unread = ⊥
OfStep refusals.NumbersUsedUp = ⊥
OfStep refusals.Foreign = ⊥

of-change : (number : ℕ) (answer : Result Transaction TxFault) (refusal : Refusal) → refused_at number answer ≡ Err refusal
    → OfStep refusal
unfolding OfStep
of-change number (Ok draft) refusal is = absurd (cc is)
of-change number (Err fault) refusal is = let same : refusals.Change number fault ≡ refusal = cc is in subst OfStep same tt

of-condition : (number : ℕ) (holds : Bool) (draft : Transaction) (refusal : Refusal) → condition_answer number holds draft ≡ Err refusal
    → OfStep refusal
unfolding OfStep
of-condition number true draft refusal is = absurd (cc is)
of-condition number false draft refusal is = let same : refusals.Condition number ≡ refusal = cc is in subst OfStep same tt

of-step : (shape : Shape) (list : List Commit) (number : ℕ) (draft : Transaction) (step : Step) (refusal : Refusal)
    → step_answer shape list number draft step ≡ Err refusal → OfStep refusal
of-step shape list number draft (steps.Change change) refusal is = of-change number (change_answer shape list draft change) refusal is
of-step shape list number draft (steps.Expect table row column value) refusal is =
    of-condition number (has_value value (get_answer shape list draft table row.0 column)) draft refusal is
of-step shape list number draft (steps.Absent table row) refusal is =
    of-condition number (is_missing (get_answer shape list draft table row.0 0)) draft refusal is

refused-of : (shape : Shape) (from : ℕ) (list : List Commit) (steps : List Step) (refusal : Refusal) → OfStep refusal
    → IsStepRefused shape from list steps refusal → IsRefused shape from list steps refusal
unfolding OfStep
refused-of shape from list steps (refusals.Change step fault) of r = r
refused-of shape from list steps (refusals.Condition step) of r = r
refused-of shape from list steps refusals.NoChange of r = absurd of
refused-of shape from list steps refusals.Unread of r = absurd of
refused-of shape from list steps refusals.NumbersUsedUp of r = absurd of
refused-of shape from list steps refusals.Foreign of r = absurd of

-- steps of which one is refused are
pub refused-there : (shape : Shape) (from : ℕ) (list : List Commit) (steps : List Step) (version : ℕ) (draft : Transaction) (i : ℕ)
    (step : Step) (stop : Stop) → from ≤ version → version ≤ length list → i < length steps → step ≡ get_or steps i step
    → steps_answer shape list 0 (record { snapshot = version; entries = [] }) steps ≡ steps_answer shape list i draft (drop i steps)
    → IsStop (step_answer shape list i draft step) stop → IsStopped shape from list steps stop
refused-there shape from list steps version draft i step stops.Memory begun within lt is made stopped = tt
refused-there shape from list steps version draft i step (stops.Refused refusal) begun within lt is made (inl unread) =
    subst (IsRefused shape from list steps) (sym unread) tt
refused-there shape from list steps version draft i step (stops.Refused refusal) begun within lt is made (inr told) =
    refused-of shape from list steps refusal (of-step shape list i draft step refusal told) (record {
      version = version;
      begun = begun;
      within = within;
      refused = made ∙ one-refused shape list draft steps i step refusal lt is told;
    })

-- a change that is refused for another reason than memory is refused by the transaction
pub fault-of : (answer : Result Transaction TxFault) (fault : TxFault) → ¬ (fault ≡ Memory) → IsFaultOf answer Memory fault
    → answer ≡ Err fault
fault-of answer fault other (inl memory) = absurd (other memory.0)
fault-of answer fault other (inr is) = is

-- a look that is refused, but not since the row is missing, did not miss it
pub not-missing : (fault : TxFault) → ¬ (fault ≡ Missing) → is_missing (Err fault) ≡ false
not-missing Exists other = refl
not-missing Missing other = absurd (other refl)
not-missing Unfit other = refl
not-missing TooManyEntries other = refl
not-missing Memory other = refl

-- a job whose commit is pending, on a longer list
pub pending-begun : (shape : Shape) (first from : ℕ) (list all : List Commit) (job : Job) (ticket : Ticket) → first ≤ from
    → IsPrefix list all → IsPending shape from list job ticket → IsPending shape first all job ticket
pending-begun shape first from list all job ticket le begins p = record {
  draft = p.draft;
  drafted = draft-begun shape first from list all job.steps.items p.draft le begins p.drafted;
  above = p.above;
  worker = p.worker;
  entries = p.entries;
}

-- once the commit stands in the list, the job is committed
pub pending-stands : (shape : Shape) (from : ℕ) (list : List Commit) (job : Job) (ticket : Ticket) → IsPending shape from list job ticket
    → Stands list ticket → IsCommitted shape from list job ticket.number
pending-stands shape from list job ticket p stands = record {
  draft = p.draft;
  drafted = p.drafted;
  above = p.above;
  stands =
      stands ∙ (ap (λ w. Some (record { worker = w; entries = ticket.entries })) p.worker
      ∙ ap (λ es. Some (record { worker = job.worker; entries = es })) p.entries);
}

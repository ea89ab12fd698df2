-- In the world what is durable stays, and nothing is damaged.
use Rattle.std.proofs.Common.{◌≡◌, ℕ, Bool, true, false, cond, not, ◌==◌, List, [], ◌∷◌, ◌++◌, length, take, Option, Some, None}
use Rattle.std.proofs.Common.{Result, Ok, Err, nat_lt, refl, sym, ap, subst, ◌∙◌, inl, inr, arith}
use Rattle.std.specs.List.{slice_get, slice_set}
use Rattle.std.specs.Result.{is_ok}
use Rattle.std.proofs.lemmas.Bool.{true≢false, le-ltb, or_from, not_from_true}
use Rattle.std.proofs.lemmas.List.{append-nil, length-append}
use Rattle.std.proofs.lemmas.Option.{none-some, same_Some}
use Rattle.rows.specs.declared.entry.Entry.{Entry}
use Rattle.rows.specs.Shape.{shape_of}
use Rattle.rows.specs.Tables.{apply_entries}
use Rattle.rows.specs.Commits.{tables_after, last_touching}
use Rattle.rows.specs.declared.commit.Commit.{Commit}
use Rattle.primary.specs.declared.faults.CommitFault.{CommitFault}
use Rattle.primary.specs.declared.faults.CommitFault.TheVariants as faults
use Rattle.mvcc.specs.Transaction.{Transaction}
use Rattle.primary.specs.Steps.{commit_answer, committed, flushed, based, is_foreign, next_number, has_numbers}
use Rattle.primary.specs.State.{Primary}
use Rattle.journal.specs.Recovery.{IsBeginning}
use Rattle.script.specs.declared.event.Event.{Event}
use Rattle.script.specs.declared.output.Output.{Output}
use Rattle.script.specs.declared.output.Output.TheVariants as outputs
use Rattle.script.specs.declared.setup.Setup.{Setup}
use Rattle.world.specs.Outputs.{of_commit}
use Rattle.world.specs.Theorem.{IsFaultless}
use Rattle.world.specs.Steps.{World, Member, opening_world, with_member}
use Rattle.world.specs.Stops.{whole_in}
use Rattle.world.specs.Allowed.{MayHappen}
use Rattle.world.specs.Inner.Undamaged.{IsBegunTransaction, IsUndamaged}
use Rattle.world.specs.Inner.StepLaws.{StepLaws}
use Rattle.world.proofs.Durable.{tables-stay}
use Rattle.world.proofs.Lists.{get-set, get-append, get-one}
use Rattle.world.proofs.Defined.{IsDefined, insert-defined, set-defined, delete-defined, column-defined}
use Rattle.world.proofs.Committing.{opened, none-open}
use Rattle.world.proofs.WorldMoves.{IsChanged, Change, hears, Move, idle, fails, begins, changes, ends, refuses, commits, flushes, bases}
use Rattle.world.proofs.WorldMoves.{stops, sends, becomes, step-moves}

-- what a step is to be
pub record IsFine (old : World) (answer : Output × World) : Type 0 where
  pub grows : IsBeginning old.primary.durable answer.1.primary.durable
  pub output : IsUndamaged old → IsFaultless answer.0
  pub undamaged : IsUndamaged old → IsUndamaged answer.1

-- a step that leaves the primary and the transactions
plain : (old new : World) (output : Output) → new.primary ≡ old.primary → new.transactions ≡ old.transactions → IsFaultless output
    → IsFine old (output, new)
plain old new output same others faultless = record {
  grows = ([], ap (λ (p : Primary). p.durable) same ∙ sym (append-nil old.primary.durable));
  output = λ undamaged. faultless;
  undamaged = λ undamaged. record {
    whole = ap (λ (p : Primary). p.failed) same ∙ undamaged.whole;
    begun =
        λ i draft here. subst (λ (p : Primary). IsBegunTransaction p draft) (sym same)
        (undamaged.begun i draft (ap (λ (l : List (Option Transaction)). slice_get l i) (sym others) ∙ here));
  };
}

-- ---- transactions

set-begun : (p : Primary) (transactions : List (Option Transaction)) (number : ℕ) (new : Transaction)
    → ((i : ℕ) (draft : Transaction) → slice_get transactions i ≡ Some (Some draft) → IsBegunTransaction p draft) → IsBegunTransaction p new
    → (i : ℕ) (draft : Transaction) → slice_get (slice_set transactions number (Some new)) i ≡ Some (Some draft)
    → IsBegunTransaction p draft
set-begun p transactions number new begun is i draft here = elim (get-set transactions number (Some new) i (Some draft) here) [
  | inl same ↦ subst (IsBegunTransaction p) (sym (same_Some draft new same.1)) is
  | inr old ↦ begun i draft old
]

ended-begun : (p : Primary) (transactions : List (Option Transaction)) (number : ℕ)
    → ((i : ℕ) (draft : Transaction) → slice_get transactions i ≡ Some (Some draft) → IsBegunTransaction p draft)
    → (i : ℕ) (draft : Transaction) → slice_get (slice_set transactions number None) i ≡ Some (Some draft) → IsBegunTransaction p draft
ended-begun p transactions number begun i draft here = elim (get-set transactions number None i (Some draft) here) [
  | inl same ↦ absurd (none-some draft (sym same.1))
  | inr old ↦ begun i draft old
]

begun-fine : (w : World) → IsFine w (
  outputs.Tx (length w.transactions) (length w.primary.durable),
  record w { transactions = w.transactions ++ Some (record { snapshot = length w.primary.durable; entries = [] }) ∷ [] },
)
begun-fine w =
    let fresh : Transaction = record { snapshot = length w.primary.durable; entries = [] } in
    record {
      grows = ([], sym (append-nil w.primary.durable));
      output = λ undamaged. tt;
      undamaged = λ undamaged. record {
        whole = undamaged.whole;
        begun = λ i draft here. elim (get-append w.transactions (Some fresh ∷ []) i (Some draft) here) [
          | inl old ↦ undamaged.begun i draft old
          | inr new ↦
              let same : draft ≡ fresh = same_Some draft fresh (get-one (Some fresh) new.0 (Some draft) new.1) in
              subst (IsBegunTransaction w.primary) (sym same) (record { known = omega arith; defined = refl })
        ];
      };
    }

-- a transaction that reads the same version, with entries that are defined there
made-begun : (p : Primary) (draft new : Transaction) → IsBegunTransaction p draft
    → (is_ok (apply_entries (tables_after (shape_of p.schema) p.durable draft.snapshot) draft.entries) ≡ true
    → IsDefined (shape_of p.schema) p.durable draft new) → IsBegunTransaction p new
made-begun p draft new begun makes =
    let made = makes begun.defined in
    let known = begun.known in
    let same = made.reads in
    record {
      known = omega arith;
      defined = ap (λ (n : ℕ). is_ok (apply_entries (tables_after (shape_of p.schema) p.durable n) new.entries)) same ∙ made.defined;
    }

-- a change that is taken is defined where the entries before it are
changed-defined : (laws : StepLaws) (w : World) (draft new : Transaction) → IsChanged w draft new
    → is_ok (apply_entries (tables_after (shape_of w.primary.schema) w.primary.durable draft.snapshot) draft.entries) ≡ true
    → IsDefined (shape_of w.primary.schema) w.primary.durable draft new
changed-defined laws w draft new (inl row) defined =
    insert-defined laws (shape_of w.primary.schema) w.primary.durable draft new defined row.0 row.1 row.2 row.3
changed-defined laws w draft new (inr (inl row)) defined =
    set-defined laws (shape_of w.primary.schema) w.primary.durable draft new defined row.0 row.1 row.2 row.3 row.4
changed-defined laws w draft new (inr (inr (inl row))) defined =
    delete-defined laws (shape_of w.primary.schema) w.primary.durable draft new defined row.0 row.1 row.2
changed-defined laws w draft new (inr (inr (inr column))) defined =
    column-defined laws (shape_of w.primary.schema) w.primary.durable draft new defined column.0 column.1 column.2

-- ---- commits

not-foreign : (p : Primary) (draft : Transaction) → IsBegunTransaction p draft → is_foreign p draft ≡ false
not-foreign p draft begun =
    or_from (nat_lt (length p.durable) draft.snapshot)
    (not (is_ok (apply_entries (tables_after (shape_of p.schema) p.durable draft.snapshot) draft.entries)))
    (le-ltb (length p.durable) draft.snapshot begun.known) (not_from_true _ begun.defined)

-- a refused commit, where the journal is whole and the transaction was begun here
commit-faultless : (p : Primary) (worker : ℕ) (draft : Transaction) (fault : CommitFault) → p.failed ≡ false → is_foreign p draft ≡ false
    → commit_answer p worker draft ≡ Err fault → IsFaultless (of_commit fault)
commit-faultless p worker draft fault whole known h =
    by p.failed (length draft.entries == 0) (is_foreign p draft)
    (nat_lt draft.snapshot (last_touching draft.entries 0 (p.durable ++ p.pending)))
    (has_numbers p worker draft.entries) whole known h
  where
    is : (other : CommitFault) → IsFaultless (of_commit other) → ◌≡◌ {A = Result ℕ CommitFault} (Err other) (Err fault)
        → IsFaultless (of_commit fault)
    is other faultless e = let same : other ≡ fault = cc in subst (λ (f : CommitFault). IsFaultless (of_commit f)) same faultless

    by : (a b c d e : Bool) → a ≡ false → c ≡ false
        → cond a (Err faults.Failed) (cond b (Err faults.ReadOnly)
        (cond c (Err faults.Foreign) (cond d (Err (faults.Conflict (last_touching draft.entries 0 (p.durable ++ p.pending))))
        (cond e (Ok (next_number p)) (Err faults.NumbersUsedUp))))) ≡ Err fault
        → IsFaultless (of_commit fault)
    by true b c d e q r h = absurd (true≢false q)
    by false true c d e q r h = is faults.ReadOnly tt h
    by false false true d e q r h = absurd (true≢false r)
    by false false false true e q r h = is (faults.Conflict (last_touching draft.entries 0 (p.durable ++ p.pending))) tt h
    by false false false false true q r h = absurd (cc)
    by false false false false false q r h = is faults.NumbersUsedUp tt h

pending-begun : (p : Primary) (worker : ℕ) (entries : List Entry) (draft : Transaction) → IsBegunTransaction p draft
    → IsBegunTransaction (committed p worker entries) draft
pending-begun p worker entries draft begun = record { known = begun.known; defined = begun.defined }

flushed-begun : (p : Primary) (count : ℕ) (draft : Transaction) → IsBegunTransaction p draft → IsBegunTransaction (flushed p count) draft
flushed-begun p count draft begun =
    let known = begun.known in
    record {
      known = omega (arith, length-append p.durable (take count p.pending));
      defined =
          ap (λ t. is_ok (apply_entries t draft.entries))
          (tables-stay (shape_of p.schema) p.durable (take count p.pending) draft.snapshot begun.known) ∙ begun.defined;
    }

based-begun : (p : Primary) (draft : Transaction) → IsBegunTransaction p draft → IsBegunTransaction (based p) draft
based-begun p draft begun = record { known = begun.known; defined = begun.defined }

-- ---- the moves

change-faultless : (w : World) (event : Event) (i : ℕ) (m : Member) (output : Output) (new : Member) → Change w event i m output new
    → IsFaultless output
change-faultless w event i m output new (hears answer known pieces is) = is.1
change-faultless w event i m output new other = tt

-- a move that leaves what is durable
kept : (w new : World) (output : Output) → new.primary.durable ≡ w.primary.durable → (IsUndamaged w → IsFaultless output)
    → (IsUndamaged w → IsUndamaged new) → IsFine w (output, new)
kept w new output same faultless undamaged =
    record { grows = ([], same ∙ sym (append-nil w.primary.durable)); output = faultless; undamaged = undamaged }

move-fine : (laws : StepLaws) (w : World) (event : Event) (output : Output) (new : World) → Move w event output new → IsFine w (output, new)
move-fine laws w event output new (idle answer is) = plain w w answer refl refl is.1
move-fine laws w event output new (fails failed) =
    kept w w outputs.Failed refl (λ undamaged. absurd (true≢false (sym failed ∙ undamaged.whole))) (λ undamaged. undamaged)
move-fine laws w event output new begins = begun-fine w
move-fine laws w event output new (changes number draft after here taken) =
    kept w new outputs.Accepted refl (λ undamaged. tt) (λ undamaged. record {
      whole = undamaged.whole;
      begun =
          set-begun w.primary w.transactions number after undamaged.begun
          (made-begun w.primary draft after (undamaged.begun number draft (opened (slice_get w.transactions number) draft here))
          (changed-defined laws w draft after taken));
    })
move-fine laws w event output new (ends number) =
    kept w new outputs.Accepted refl (λ undamaged. tt)
    (λ undamaged. record { whole = undamaged.whole; begun = ended-begun w.primary w.transactions number undamaged.begun })
move-fine laws w event output new (refuses number worker draft fault here refused) =
    kept w new (of_commit fault) refl (λ undamaged.
    commit-faultless w.primary worker draft fault undamaged.whole
    (not-foreign w.primary draft (undamaged.begun number draft (opened (slice_get w.transactions number) draft here))) refused)
    (λ undamaged. record { whole = undamaged.whole; begun = ended-begun w.primary w.transactions number undamaged.begun })
move-fine laws w event output new (commits number worker draft ticket taken) =
    kept w new (outputs.Ticket ticket) refl (λ undamaged. tt) (λ undamaged. record {
      whole = undamaged.whole;
      begun =
          ended-begun (committed w.primary worker draft.entries) w.transactions number
          (λ i other here. pending-begun w.primary worker draft.entries other (undamaged.begun i other here));
    })
move-fine laws w event output new (flushes count runs) = record {
  grows = (take count w.primary.pending, refl);
  output = λ undamaged. tt;
  undamaged =
      λ undamaged. record {
        whole = undamaged.whole;
        begun = λ i draft here. flushed-begun w.primary count draft (undamaged.begun i draft here);
      };
}
move-fine laws w event output new (bases pieces) =
    kept w new output refl (λ undamaged. tt) (λ undamaged. record {
      whole = undamaged.whole;
      begun = λ i draft here. based-begun w.primary draft (undamaged.begun i draft here);
    })
move-fine laws w event output new (stops bytes runs) = record {
  grows = (take (whole_in (length w.primary.durable) w.primary.pending bytes) w.primary.pending, refl);
  output = λ undamaged. tt;
  undamaged = λ undamaged. record { whole = refl; begun = λ i draft here. absurd (none-open w.transactions i draft here) };
}
move-fine laws w event output new (sends answer more is sent) = plain w new answer refl refl is.1
move-fine laws w event output new (becomes i m after answer here change) =
    plain w (with_member w after) answer refl refl (change-faultless w event i m answer after change)
move-fine laws w event output new other = plain w new output refl refl tt

pub step-fine : (laws : StepLaws) (old : World) (event : Event) (output : Output) (new : World) → MayHappen old event output new
    → IsFine old (output, new)
step-fine laws old event output new may = move-fine laws old event output new (step-moves old event output new may)

-- ---- the beginning

pub opening-undamaged : (setup : Setup) (durable : List Commit) (stopped : Bool) → IsUndamaged (opening_world setup durable stopped)
opening-undamaged setup durable stopped = record { whole = refl; begun = λ i draft here. absurd (none-some (Some draft) here) }

-- What was acknowledged stands. A valid ticket's commit is under its number among the durable and the pending commits, or a stop lost
-- it; so it is durable once `durable` is answered with that number, and what is durable stays.
use Rattle.std.proofs.Common.{◌≡◌, ℕ, zero, suc, ◌+◌, ◌<◌, ◌≤◌, Bool, true, false, cond, ◌⊎◌, inl, inr, List, [], ◌∷◌, ◌++◌, length}
use Rattle.std.proofs.Common.{take, drop, Option, None, Some, Result, Ok, Err, nat_le, nat_lt, ◌==◌, refl, sym, ap, subst, ◌∙◌, arith}
use Rattle.std.specs.List.{slice_get, AllByRecursion}
use Rattle.std.proofs.lemmas.Bool.{false≢true, leb-true, leb-false}
use Rattle.std.proofs.lemmas.List.{append_assoc, append-nil, length-append, take-append-drop}
use Rattle.std.proofs.lemmas.Option.{none-some, same_Some}
use Rattle.rows.specs.declared.commit.Commit.{Commit}
use Rattle.rows.specs.Commits.{last_touching}
use Rattle.journal.specs.Recovery.{IsBeginning}
use Rattle.mvcc.specs.Transaction.{Transaction}
use Rattle.primary.specs.State.{Primary}
use Rattle.primary.specs.Steps.{commit_answer, next_number, has_numbers, is_foreign}
use Rattle.primary.specs.declared.faults.CommitFault.{CommitFault}
use Rattle.primary.specs.declared.faults.CommitFault.TheVariants as faults
use Rattle.script.specs.declared.event.Event.{Event}
use Rattle.script.specs.declared.event.Event.TheVariants as events
use Rattle.script.specs.declared.output.Output.{Output}
use Rattle.script.specs.declared.output.Output.TheVariants as outputs
use Rattle.world.specs.Acknowledged.{StandsAt, IsTicketed, StaysValid, KeepsAcknowledged}
use Rattle.world.specs.Allowed.{MayHappen, Step, LeadsTo, IsAllowed}
use Rattle.world.specs.Inner.StepLaws.{StepLaws}
use Rattle.world.specs.Steps.{World, Member, open_transaction, on_transaction, commit_happens}
use Rattle.world.specs.Stops.{whole_in}
use Rattle.world.proofs.Lists.{get-append_left}
use Rattle.world.proofs.Undamaged.{step-fine}
use Rattle.world.proofs.WorldMoves.{IsSilent, commit-silent, Change, hears, opens, fetches, reports, moves, breaks, restarts}
use Rattle.world.proofs.WorldMoves.{Move, idle, refuses, commits, flushes, stops, starts}
use Rattle.world.proofs.WorldMoves.{sends, becomes, step-moves}

-- ---- lists

get-last : {A : Type 0} (xs : List A) (x : A) → slice_get (xs ++ x ∷ []) (length xs) ≡ Some x
get-last [] x = refl
get-last (y ∷ xs) x = get-last xs x

get-front : {A : Type 0} (xs ys : List A) (i : ℕ) (x : A) → i < length xs → slice_get (xs ++ ys) i ≡ Some x → slice_get xs i ≡ Some x
get-front [] ys i x within h = absurd (omega arith)
get-front (y ∷ xs) ys zero x within h = h
get-front (y ∷ xs) ys (suc i) x within h = get-front xs ys i x (omega arith) h

module _ (number : ℕ) (commit : Commit) where
  stands-longer : (front back : List Commit) → StandsAt number commit front → StandsAt number commit (front ++ back)
  stands-longer front back h = (h.0, h.1, get-append_left front back h.0 commit h.2)

  stands-shorter : (front back : List Commit) → number ≤ length front → StandsAt number commit (front ++ back)
      → StandsAt number commit front
  stands-shorter front back within h =
      let at = h.1 in
      (h.0, h.1, get-front front back h.0 commit (omega arith) h.2)

  stands-begun : (old new : List Commit) → IsBeginning old new → StandsAt number commit old → StandsAt number commit new
  stands-begun old new more h = subst (StandsAt number commit) (sym more.1) (stands-longer old more.0 h)

-- ---- a ticket

commit-number : (p : Primary) (worker : ℕ) (draft : Transaction) (number : ℕ) → commit_answer p worker draft ≡ Ok number
    → number ≡ next_number p
commit-number p worker draft number h =
    by p.failed (length draft.entries == 0) (is_foreign p draft)
    (nat_lt draft.snapshot (last_touching draft.entries 0 (p.durable ++ p.pending)))
    (has_numbers p worker draft.entries) h
  where
    by : (a b c d e : Bool)
        → cond a (Err faults.Failed) (cond b (Err faults.ReadOnly)
        (cond c (Err faults.Foreign) (cond d (Err (faults.Conflict (last_touching draft.entries 0 (p.durable ++ p.pending))))
        (cond e (Ok (next_number p)) (Err faults.NumbersUsedUp))))) ≡ Ok number
        → number ≡ next_number p
    by true b c d e r = absurd (cc)
    by false true c d e r = absurd (cc)
    by false false true d e r = absurd (cc)
    by false false false true e r = absurd (cc)
    by false false false false true r = cc
    by false false false false false r = absurd (cc)

-- the commit of a ticket stands behind all others under its number
committed-stands : (p : Primary) (commit : Commit) → StandsAt (next_number p) commit (p.durable ++ (p.pending ++ commit ∷ []))
committed-stands p commit =
    let at = get-last (p.durable ++ p.pending) commit in (
      length p.durable + length p.pending,
      refl,
      subst (λ (i : ℕ). slice_get (p.durable ++ (p.pending ++ commit ∷ [])) i ≡ Some commit) (length-append p.durable p.pending)
          (subst (λ (l : List Commit). slice_get l (length (p.durable ++ p.pending)) ≡ Some commit)
          (append_assoc p.durable p.pending (commit ∷ [])) at),
    )

ticket-stands : (w : World) (transaction worker number : ℕ) (draft : Transaction) (new : World)
    → open_transaction w.transactions transaction ≡ Some draft
    → MayHappen w (events.Commit transaction worker) (outputs.Ticket number) new
    → StandsAt number (record { worker = worker; entries = draft.entries }) (new.primary.durable ++ new.primary.pending)
ticket-stands w transaction worker number draft new open_is (inr (inl memory)) =
    let told = memory.0 in absurd (cc)
ticket-stands w transaction worker number draft new open_is (inr (inr cut)) = absurd cut
ticket-stands w transaction worker number draft new open_is (inl made) =
    by w.stopped (open_transaction w.transactions transaction) open_is made
  where
    commit : Commit
    commit = record { worker = worker; entries = draft.entries }

    on : (answer : Result ℕ CommitFault) → commit_answer w.primary worker draft ≡ answer
        → commit_happens w transaction worker draft answer ≡ (outputs.Ticket number, new)
        → StandsAt number commit (new.primary.durable ++ new.primary.pending)
    on (Ok given) is e =
        let told : outputs.Ticket given ≡ outputs.Ticket number = ap (λ (x : Output × World). x.0) e in
        let same : given ≡ number = cc in
        let left = ap (λ (x : Output × World). x.1.primary) e in
        let own = commit-number w.primary worker draft given is in
        subst (λ (p : Primary). StandsAt number commit (p.durable ++ p.pending)) left
        (subst (λ (n : ℕ). StandsAt n commit (w.primary.durable ++ (w.primary.pending ++ commit ∷ []))) (sym own ∙ same)
        (committed-stands w.primary commit))
    on (Err fault) is e = absurd (subst IsSilent (ap (λ (x : Output × World). x.0) e) (commit-silent fault))

    by : (stopped : Bool) (found : Option Transaction) → found ≡ Some draft
        → cond stopped (outputs.Stopped, w)
        (on_transaction w found (λ d. commit_happens w transaction worker d (commit_answer w.primary worker d)))
        ≡ (outputs.Ticket number, new)
        → StandsAt number commit (new.primary.durable ++ new.primary.pending)
    by true found same e =
        let told : outputs.Stopped ≡ outputs.Ticket number = ap (λ (x : Output × World). x.0) e in absurd (cc)
    by false None same e = absurd (none-some draft same)
    by false (Some d) same e =
        on (commit_answer w.primary worker draft) refl
        (subst (λ (t : Transaction).
        commit_happens w transaction worker t (commit_answer w.primary worker t) ≡ (outputs.Ticket number, new))
        (same_Some d draft same) e)

-- ---- the moves

-- where the commit of a valid ticket is: under its number among the durable and the pending ones; or a stop lost it, and the primary
-- has not started since
abbrev IsHeld : ℕ → Commit → World → Type 0
IsHeld number commit w =
    StandsAt number commit (w.primary.durable ++ w.primary.pending) ⊎ ((w.stopped ≡ true) × (length w.primary.durable < number))

module _ (number : ℕ) (commit : Commit) where
  -- the durable and the pending commits, with so many of the pending ones apart
  apart : (durable pending : List Commit) (count : ℕ)
      → (durable ++ take count pending) ++ drop count pending ≡ durable ++ pending
  apart durable pending count =
      append_assoc durable (take count pending) (drop count pending)
      ∙ ap (λ (l : List Commit). durable ++ l) (take-append-drop count pending)

  stopped-held : (w : World) (bytes : ℕ) → StandsAt number commit (w.primary.durable ++ w.primary.pending)
      → IsHeld number commit (record w {
        primary = record w.primary {
          durable = w.primary.durable ++ take (whole_in (length w.primary.durable) w.primary.pending bytes) w.primary.pending;
          pending = [];
          failed = false;
          base = 0;
        };
        stopped = true;
        transactions = [];
      })
  stopped-held w bytes h = by (nat_le number (length kept)) refl
    where
      count : ℕ
      count = whole_in (length w.primary.durable) w.primary.pending bytes

      kept : List Commit
      kept = w.primary.durable ++ take count w.primary.pending

      by : (within : Bool) → nat_le number (length kept) ≡ within
          → StandsAt number commit (kept ++ []) ⊎ ((true ≡ true) × (length kept < number))
      by true e =
          inl (subst (StandsAt number commit) (sym (append-nil kept))
          (stands-shorter number commit kept (drop count w.primary.pending) (leb-true number (length kept) e)
          (subst (StandsAt number commit) (sym (apart w.primary.durable w.primary.pending count)) h)))
      by false e = inr (refl, leb-false number (length kept) e)

  -- a step leaves it there, or loses it, unless a start ends the ticket
  move-holds : (w : World) (event : Event) (output : Output) (new : World)
      → ((durable : ℕ) → event ≡ events.Start → output ≡ outputs.Durable durable → number ≤ durable)
      → Move w event output new → IsHeld number commit w → IsHeld number commit new
  move-holds w event output new valid (commits slot worker draft ticket taken) (inl h) =
      inl (subst (StandsAt number commit)
      (append_assoc w.primary.durable w.primary.pending (record { worker = worker; entries = draft.entries } ∷ []))
      (stands-longer number commit (w.primary.durable ++ w.primary.pending) (record { worker = worker; entries = draft.entries } ∷ []) h))
  move-holds w event output new valid (commits slot worker draft ticket taken) (inr lost) = inr lost
  move-holds w event output new valid (flushes count runs) (inl h) =
      inl (subst (StandsAt number commit) (sym (apart w.primary.durable w.primary.pending count)) h)
  move-holds w event output new valid (flushes count runs) (inr lost) = absurd (false≢true (sym runs ∙ lost.0))
  move-holds w event output new valid (stops bytes runs) (inl h) = stopped-held w bytes h
  move-holds w event output new valid (stops bytes runs) (inr lost) = absurd (false≢true (sym runs ∙ lost.0))
  move-holds w event output new valid (starts is) (inl h) = inl h
  move-holds w event output new valid (starts is) (inr lost) =
      let kept = valid (length w.primary.durable) is refl in
      let short = lost.1 in
      absurd (omega arith)
  move-holds w event output new valid other held = held

  -- once that number is answered as durable, it is
  move-stands : (w : World) (event : Event) (output : Output) (new : World) (durable : ℕ) → output ≡ outputs.Durable durable
      → number ≤ durable → Move w event output new → IsHeld number commit w → StandsAt number commit new.primary.durable
  move-stands w event output new durable told within (idle answer is) held = absurd (subst IsSilent told is.0)
  move-stands w event output new durable told within (refuses slot worker draft fault here refused) held =
      absurd (subst IsSilent told (commit-silent fault))
  move-stands w event output new durable told within (flushes count runs) (inl h) =
      let front = w.primary.durable ++ take count w.primary.pending in
      let answered : length front ≡ durable = cc in
      stands-shorter number commit front (drop count w.primary.pending) (omega arith)
      (subst (StandsAt number commit) (sym (apart w.primary.durable w.primary.pending count)) h)
  move-stands w event output new durable told within (flushes count runs) (inr lost) = absurd (false≢true (sym runs ∙ lost.0))
  move-stands w event output new durable told within (starts is) (inl h) =
      let answered : length w.primary.durable ≡ durable = cc in
      stands-shorter number commit w.primary.durable w.primary.pending (omega arith) h
  move-stands w event output new durable told within (starts is) (inr lost) =
      let answered : length w.primary.durable ≡ durable = cc in
      let short = lost.1 in
      absurd (omega arith)
  move-stands w event output new durable told within (sends answer more is sent) held = absurd (subst IsSilent told is.0)
  move-stands w event output new durable told within (becomes i m after answer here change) held =
      absurd (none-told answer after told change)
    where
      none-told : (given : Output) (left : Member) → given ≡ outputs.Durable durable → Change w event i m given left → ⊥
      none-told given left same (hears answer known pieces is) = subst IsSilent same is.0
      none-told given left same (opens plan) = cc
      none-told given left same (fetches plans head pieces has sent) = cc
      none-told given left same (reports plans fetched is has) = cc
      none-told given left same (moves plans fetched has) = cc
      none-told given left same breaks = cc
      none-told given left same (restarts boot is never) = cc
  move-stands w event output new durable told within other held = absurd (cc)

-- ---- a run

module _ (laws : StepLaws) (number : ℕ) (commit : Commit) (end : World) where
  -- what is durable at a step stands at each later one
  stands-on : (old : World) (steps : List (Step World)) → LeadsTo old steps end → AllByRecursion IsAllowed steps
      → StandsAt number commit old.primary.durable
      → AllByRecursion (λ (step : Step World). StandsAt number commit step.new.primary.durable) steps
  stands-on old [] leads allowed h = tt
  stands-on old (step ∷ steps) leads allowed h =
      let grows = (step-fine laws step.old step.event step.output step.new allowed.0).grows in
      let here = subst (λ (w : World). StandsAt number commit w.primary.durable) (sym leads.0) h in
      let now = stands-begun number commit step.old.primary.durable step.new.primary.durable grows here in
      (now, stands-on step.new steps leads.1 allowed.1 now)

  -- it is answered as durable
  answered-stands : (old : World) (answered : Step World) (after : List (Step World)) (durable : ℕ)
      → LeadsTo old (answered ∷ after) end → AllByRecursion IsAllowed (answered ∷ after) → IsHeld number commit old
      → answered.output ≡ outputs.Durable durable → number ≤ durable
      → AllByRecursion (λ (step : Step World). StandsAt number commit step.new.primary.durable) (answered ∷ after)
  answered-stands old answered after durable leads allowed held told within =
      let move = step-moves answered.old answered.event answered.output answered.new allowed.0 in
      let now =
      move-stands number commit answered.old answered.event answered.output answered.new durable told within move
      (subst (IsHeld number commit) (sym leads.0) held) in
      (now, stands-on answered.new after leads.1 allowed.1 now)

  -- the ticket stays valid until then
  between-stands : (old : World) (between : List (Step World)) (answered : Step World) (after : List (Step World)) (durable : ℕ)
      → LeadsTo old (between ++ answered ∷ after) end → AllByRecursion IsAllowed (between ++ answered ∷ after)
      → IsHeld number commit old → AllByRecursion (StaysValid number) between
      → answered.output ≡ outputs.Durable durable → number ≤ durable
      → AllByRecursion (λ (step : Step World). StandsAt number commit step.new.primary.durable) (answered ∷ after)
  between-stands old [] answered after durable leads allowed held valid told within =
      answered-stands old answered after durable leads allowed held told within
  between-stands old (step ∷ between) answered after durable leads allowed held valid told within =
      let move = step-moves step.old step.event step.output step.new allowed.0 in
      between-stands step.new between answered after durable leads.1 allowed.1
      (move-holds number commit step.old step.event step.output step.new valid.0 move (subst (IsHeld number commit) (sym leads.0) held))
      valid.1 told within

  -- from the ticket on, wherever it is in the run
  ticketed-stands : (old : World) (before between after : List (Step World)) (ticketed answered : Step World) (durable : ℕ)
      → LeadsTo old (before ++ ticketed ∷ between ++ answered ∷ after) end
      → AllByRecursion IsAllowed (before ++ ticketed ∷ between ++ answered ∷ after)
      → IsTicketed number commit ticketed → AllByRecursion (StaysValid number) between
      → answered.output ≡ outputs.Durable durable → number ≤ durable
      → AllByRecursion (λ (step : Step World). StandsAt number commit step.new.primary.durable) (answered ∷ after)
  ticketed-stands old (step ∷ before) between after ticketed answered durable leads allowed ticket valid told within =
      ticketed-stands step.new before between after ticketed answered durable leads.1 allowed.1 ticket valid told within
  ticketed-stands old [] between after ticketed answered durable leads allowed ticket valid told within =
      let happened =
      subst (λ (e : Event). MayHappen ticketed.old e (outputs.Ticket number) ticketed.new) ticket.3
      (subst (λ (o : Output). MayHappen ticketed.old ticketed.event o ticketed.new) ticket.4 allowed.0) in
      let stands = ticket-stands ticketed.old ticket.0 ticket.1 number ticket.2 ticketed.new ticket.5 happened in
      between-stands ticketed.new between answered after durable leads.1 allowed.1
      (inl (subst (λ (c : Commit). StandsAt number c (ticketed.new.primary.durable ++ ticketed.new.primary.pending)) (sym ticket.6) stands))
      valid told within

pub acknowledged-stands : (laws : StepLaws) (old end : World) (steps : List (Step World)) → LeadsTo old steps end
    → AllByRecursion IsAllowed steps → KeepsAcknowledged steps
acknowledged-stands laws old end steps leads allowed =
    λ before between after ticketed answered number durable commit split is valid told below.
    ticketed-stands laws number commit end old before between after ticketed answered durable
    (subst (λ (l : List (Step World)). LeadsTo old l end) split leads) (subst (AllByRecursion IsAllowed) split allowed) is valid told below

-- Each step of a fresh world is, as users see it, one of the database.
use Rattle.std.proofs.Common.{◌≡◌, ℕ, zero, suc, ◌⊎◌, inl, inr, List, [], ◌∷◌, map, replicate, Some}
use Rattle.std.proofs.Common.{refl, sym, ap, subst, ◌∙◌}
use Rattle.std.specs.List.{slice_get, slice_set, AllByRecursion}
use Rattle.std.specs.Option.{option_map}
use Rattle.std.proofs.lemmas.Option.{none-some}
use Rattle.rows.specs.declared.kind.Kind.{Kind}
use Rattle.script.specs.declared.event.Event.{Event}
use Rattle.script.specs.declared.output.Output.{Output}
use Rattle.script.specs.declared.output.Output.TheVariants as outputs
use Rattle.world.specs.Database.{Reader, Database, new_reader, HasAsked, IsFetched, IsMoved, IsAnswered, Becomes, Says, IsDatabaseRun}
use Rattle.world.specs.Renewals.{IsGivenUp, IsRenewal, IsStepWithRenewals, IsRunWithRenewals, RenewsNothing}
use Rattle.world.specs.Steps.{World, Member, fresh_from, with_member, opening_world}
use Rattle.world.specs.Allowed.{Step, LeadsTo, events_in, outputs_in, IsAllowed}
use Rattle.world.specs.Outputs.{of_commit}
use Rattle.world.specs.Theorem.{seen_batch, reader_of, database_of, RunsAreOfDatabase}
use Rattle.world.specs.Inner.Fresh.{Fresh, HasBoot}
use Rattle.world.specs.Inner.StepLaws.{StepLaws}
use Rattle.world.proofs.Fresh.{opening-fresh}
use Rattle.world.proofs.FreshDatagrams.{fetched-fresh}
use Rattle.world.proofs.Freshness.{serving, step-serves, possible-boots}
use Rattle.world.proofs.Undamaged.{step-fine}
use Rattle.world.proofs.Requested.{step-counts}
use Rattle.world.proofs.Lists.{set-same}
use Rattle.world.proofs.WorldMoves.{new_batch, renewed_batch, IsSilent, commit-silent, Change, hears, opens, fetches, reports, moves}
use Rattle.world.proofs.WorldMoves.{breaks, restarts, Move, idle, tells, dumps, refuses, commits, flushes, starts, sends, asks, renews}
use Rattle.world.proofs.WorldMoves.{becomes, step-moves}

-- what a step says and what becomes of the replicas, as users see it
abbrev pub Tells : World → Output × World → Type 0
Tells w answer = Says w.primary.schema (database_of w) answer.0 (database_of answer.1).readers

-- the same, or that a version is given up
abbrev pub TellsBy : World → Event → Output × World → Type 0
TellsBy w event answer = Tells w answer ⊎ IsRenewal (database_of w) event answer.0 (database_of answer.1).readers

-- an output that tells nothing of a replica, and leaves all of them as they were
silent : (w : World) (output : Output) (readers : List Reader) → IsSilent output → readers ≡ (database_of w).readers
    → Says w.primary.schema (database_of w) output readers
silent w (outputs.Report text) readers h may = absurd h
silent w (outputs.Dump text) readers h may = absurd h
silent w (outputs.Version version) readers h may = absurd h
silent w (outputs.Head version) readers h may = absurd h
silent w (outputs.Boot boot) readers h may = absurd h
silent w (outputs.Sent sent) readers h same = inl same
silent w outputs.Memory readers h same = inl same
silent w other readers h same = same

-- the replicas stay as they are seen
same-readers : (w : World) (output : Output) (new : World) → IsSilent output → new.members ≡ w.members → Tells w (output, new)
same-readers w output new h same = silent w output _ h (ap (map reader_of) same)

-- ---- one replica

map-get : (members : List Member) (i : ℕ) (m : Member) → slice_get members i ≡ Some m
    → slice_get (map reader_of members) i ≡ Some (reader_of m)
map-get [] i m here = absurd (none-some m here)
map-get (first ∷ members) zero m here = ap (option_map reader_of) here
map-get (first ∷ members) (suc i) m here = map-get members i m here

map-set : (members : List Member) (i : ℕ) (m : Member) → map reader_of (slice_set members i m) ≡ slice_set (map reader_of members) i
    (reader_of m)
map-set [] i m = refl
map-set (first ∷ members) zero m = refl
map-set (first ∷ members) (suc i) m = ap (λ (l : List Reader). reader_of first ∷ l) (map-set members i m)

module _ (w : World) (event : Event) (h : Fresh w) (i : ℕ) (m : Member) (here : slice_get w.members i ≡ Some m) where
  -- the readers after a change of the replica
  changed : (new : Member) → new.protocol.number ≡ m.protocol.number
      → map reader_of (with_member w new).members ≡ slice_set (database_of w).readers i (reader_of new)
  changed new number =
      ap (λ (n : ℕ). map reader_of (slice_set w.members n new)) (number ∙ (h.members_are i m here).number_is)
      ∙ map-set w.members i new

  -- it is seen as it was
  alike : (new : Member) (output : Output) → new.protocol.number ≡ m.protocol.number → reader_of new ≡ reader_of m → IsSilent output
      → Tells w (output, with_member w new)
  alike new output number same is =
      silent w output _ is (changed new number ∙ ap (slice_set (database_of w).readers i) same
      ∙ set-same (database_of w).readers i (reader_of m) (map-get w.members i m here))

  -- it becomes what it may
  seen_as : (May : Reader → Reader → Type 0) (new : Member) → new.protocol.number ≡ m.protocol.number → May (reader_of m) (reader_of new)
      → Becomes May (database_of w).readers (database_of (with_member w new)).readers
  seen_as May new number may = (i, reader_of m, reader_of new, map-get w.members i m here, may, changed new number)

  change_tells : (output : Output) (new : Member) → Change w event i m output new → Tells w (output, with_member w new)
  change_tells output new (hears answer known pieces is) = alike new answer refl refl is.0
  change_tells output new (opens plan) = alike new output refl refl tt
  change_tells output new (fetches plans head pieces has sent) =
      seen_as (IsFetched w.primary.durable head.version) new refl (
        plans,
        m.asked_at,
        ap (option_map (seen_batch m.asked_at)) has,
        fetched-fresh w i m plans head h here has sent,
        refl,
      )
  change_tells output new (reports plans fetched is has) =
      seen_as (IsAnswered w.primary.schema w.primary.durable _) new refl (
        plans,
        m.asked_at,
        fetched.version,
        ap (option_map (seen_batch m.asked_at)) has,
        serving w event h i m here plans fetched has,
        refl,
        refl,
      )
  change_tells output new (moves plans fetched has) =
      inr (seen_as (IsMoved w.primary.durable) new refl (
        plans,
        m.asked_at,
        fetched.version,
        ap (option_map (seen_batch m.asked_at)) has,
        serving w event h i m here plans fetched has,
        refl,
      ))
  change_tells output new breaks = alike new output refl refl tt
  change_tells output new (restarts boot is never) = seen_as (λ old new. new ≡ new_reader) new refl refl

-- ---- any step

move-tells : (w : World) (event : Event) (output : Output) (new : World) → Fresh w → Move w event output new
    → TellsBy w event (output, new)
move-tells w event output new h (idle answer is) = inl (same-readers w answer w is.0 refl)
move-tells w event output new h (tells i m here) = inl (i, reader_of m, map-get w.members i m here, refl, refl)
move-tells w event output new h (dumps i m is here) =
    inl (i, reader_of m, map-get w.members i m here, ((h.members_are i m here).below, refl), refl)
move-tells w event output new h (refuses number worker draft fault here refused) =
    inl (same-readers w (of_commit fault) new (commit-silent fault) refl)
move-tells w event output new h (commits number worker draft ticket taken) = inl refl
move-tells w event output new h (flushes count runs) = inl refl
move-tells w event output new h (starts is) = inl refl
move-tells w event output new h (sends answer more is sent) = inl (same-readers w answer new is.0 refl)
move-tells w event output new h (asks i m here none) =
    inl (inr (seen_as w event h i m here (HasAsked w.primary.durable) (new_batch w m) refl
    (m.protocol.waiting, ap (option_map (seen_batch m.asked_at)) none, refl)))
move-tells w event output new h (renews i m plans fetched is here has) =
    inr (
      i,
      _,
      is,
      refl,
      seen_as w event h i m here IsGivenUp (renewed_batch m plans) refl
          (plans, m.asked_at, fetched.version, ap (option_map (seen_batch m.asked_at)) has, refl),
    )
move-tells w event output new h (becomes i m after answer here change) = inl (change_tells w event h i m here answer after change)
move-tells w event output new h other = inl (same-readers w output new tt refl)

-- ---- a run

readers-started : (workers number count : ℕ) → map reader_of (fresh_from workers number count) ≡ replicate count new_reader
readers-started workers number zero = refl
readers-started workers number (suc count) = ap (λ (l : List Reader). new_reader ∷ l) (readers-started workers (suc number) count)

-- a run of a fresh world, seen as its users see it
runs-tell : (laws : StepLaws) (schema : List (List ℕ × List Kind)) (old end : World) (steps : List (Step World))
    → AllByRecursion HasBoot (events_in steps) → Fresh old → old.primary.schema ≡ schema → LeadsTo old steps end
    → AllByRecursion IsAllowed steps
    → IsRunWithRenewals schema (database_of old) (events_in steps) (outputs_in steps) (database_of end)
runs-tell laws schema old end [] boots fresh same leads allowed = ap database_of leads
runs-tell laws schema old end (step ∷ steps) boots fresh same leads allowed =
    let before = step.old in
    let mid = step.new in
    let here = subst Fresh (sym leads.0) fresh in
    let schema_is = ap (λ (w : World). w.primary.schema) leads.0 ∙ same in
    let serves = step-serves laws before step.event step.output mid boots.0 here allowed.0 in
    let fine = step-fine laws before step.event step.output mid allowed.0 in
    let schema_stays = (step-counts before step.event step.output mid allowed.0).schema in (
      database_of mid,
      subst (λ (w : World). IsStepWithRenewals schema (database_of w) step.event step.output (database_of mid)) leads.0 (
        fine.grows,
        subst
            (λ (s : List (List ℕ × List Kind)). Says s (database_of before) step.output (database_of mid).readers
            ⊎ IsRenewal (database_of before) step.event step.output (database_of mid).readers) schema_is
            (move-tells before step.event step.output mid here (step-moves before step.event step.output mid allowed.0)),
      ),
      runs-tell laws schema mid end steps boots.1 serves.fresh (schema_stays ∙ schema_is) leads.1 allowed.1,
    )

pub runs-of-database : (laws : StepLaws) → RunsAreOfDatabase
runs-of-database laws setup durable stopped steps end numbered few possible run =
    subst (λ (d : Database). IsRunWithRenewals setup.schema d (events_in steps) (outputs_in steps) (database_of end))
    (ap (λ (readers : List Reader). record { commits = durable; readers = readers }) (readers-started setup.workers 0 setup.replicas))
    (runs-tell laws setup.schema (opening_world setup durable stopped) end steps
    (possible-boots setup.workers setup.replicas (events_in steps) possible) (opening-fresh setup durable stopped numbered few) refl
    run.leads run.allowed)

-- without renewals it is one of the page
pub run-of-page : (schema : List (List ℕ × List Kind)) (old end : Database) (events : List Event) (outputs : List Output)
    → AllByRecursion RenewsNothing events → IsRunWithRenewals schema old events outputs end → IsDatabaseRun schema old outputs end
run-of-page schema old end [] [] none run = run
run-of-page schema old end [] (output ∷ outputs) none run = absurd run
run-of-page schema old end (event ∷ events) [] none run = absurd run
run-of-page schema old end (event ∷ events) (output ∷ outputs) none run =
    (run.0, (run.1.0, by run.1.1), run-of-page schema run.0 end events outputs none.1 run.2)
  where
    by : Says schema old output run.0.readers ⊎ IsRenewal old event output run.0.readers → Says schema old output run.0.readers
    by (inl says) = says
    by (inr renewal) = absurd (subst RenewsNothing renewal.2 none.0)

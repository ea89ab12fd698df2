-- A run of the cores so far, one more step of it, and what is so of it at its end.
use Rattle.std.proofs.Common.{◌≡◌, ◌^◌, ◌<◌, ◌≤◌, List, [], ◌∷◌, ◌++◌, length, map, refl, sym, ap, subst, ◌∙◌}
use Rattle.std.specs.List.{AllByRecursion}
use Rattle.std.proofs.lemmas.List.{map-append, length-map}
use Rattle.journal.specs.Recovery.{IsBeginning}
use Rattle.rows.specs.Commits.{IsLegal}
use Rattle.rows.specs.Limits.{replicas_max}
use Rattle.rows.specs.Shape.{shape_of}
use Rattle.script.specs.declared.event.Event.{Event}
use Rattle.script.specs.declared.output.Output.{Output}
use Rattle.script.specs.Events.{IsPossible}
use Rattle.world.specs.Cores.{Cores, Opening, cores_started}
use Rattle.world.specs.Steps.{World, opening_world}
use Rattle.world.specs.Allowed.{Step, LeadsTo, events_in, outputs_in, IsAllowed, Runs}
use Rattle.world.specs.Database.{new_database}
use Rattle.world.specs.Renewals.{IsRunWithRenewals}
use Rattle.world.specs.Standing.{world_of, AreFed, JournalStands, LeavesOnJournal}
use Rattle.world.specs.Theorem.{seen, database_of, IsFaultless, AreOfOneRun, HasOneDumpOfVersion, KeepsPromises}
use Rattle.world.specs.Inner.StepLaws.{StepLaws}
use Rattle.world.proofs.Databases.{runs-of-database, run-of-page}
use Rattle.world.proofs.Dumps.{run-dumps}
use Rattle.world.proofs.Moments.{run-stands}
use Rattle.world.proofs.Reports.{allowed-exact}
use Rattle.world.proofs.Slots.{all_map, all_push, all_weaker}
use Rattle.world.proofs.Undamaged.{step-fine}
use Rattle.world.proofs.Worlds.{world-started}

-- ---- step by step

-- a step of the cores that the world allows, and after which they stand
abbrev pub KeepsStanding : Step Cores → Type 0
KeepsStanding step = IsAllowed (seen step) × AreFed step.new × JournalStands step.new × LeavesOnJournal step.old step.event step.new

-- the steps by these events and with these outputs, from the cores' start to where they are now
pub record RunsSoFar (opening : Opening) (events : List Event) (outputs : List Output) (now : Cores) : Type 0 where
  pub steps : List (Step Cores)
  pub events_are : events_in steps ≡ events
  pub outputs_are : outputs_in steps ≡ outputs
  pub leads : LeadsTo (cores_started opening) steps now
  pub kept : AllByRecursion KeepsStanding steps

pub none_yet : (opening : Opening) → RunsSoFar opening [] [] (cores_started opening)
none_yet opening = record { steps = []; events_are = refl; outputs_are = refl; leads = refl; kept = tt }

leads-push : (old : Cores) (steps : List (Step Cores)) (step : Step Cores) → LeadsTo old steps step.old
    → LeadsTo old (steps ++ step ∷ []) step.new
leads-push old [] step leads = (leads, refl)
leads-push old (first ∷ steps) step leads = (leads.0, leads-push first.new steps step leads.1)

pub one_more : (opening : Opening) (events : List Event) (outputs : List Output) (step : Step Cores)
    → RunsSoFar opening events outputs step.old → KeepsStanding step
    → RunsSoFar opening (events ++ step.event ∷ []) (outputs ++ step.output ∷ []) step.new
one_more opening events outputs step run kept = record {
  steps = run.steps ++ step ∷ [];
  events_are =
      map-append (λ (s : Step Cores). s.event) run.steps (step ∷ [])
      ∙ ap (λ (l : List Event). l ++ step.event ∷ []) run.events_are;
  outputs_are =
      map-append (λ (s : Step Cores). s.output) run.steps (step ∷ [])
      ∙ ap (λ (l : List Output). l ++ step.output ∷ []) run.outputs_are;
  leads = leads-push (cores_started opening) run.steps step run.leads;
  kept = all_push KeepsStanding run.steps step kept run.kept;
}

-- ---- as a run of the world

seen-leads : (old end : Cores) (steps : List (Step Cores)) → LeadsTo old steps end → LeadsTo (world_of old) (map seen steps) (world_of end)
seen-leads old end [] leads = ap world_of leads
seen-leads old end (step ∷ steps) leads = (ap world_of leads.0, seen-leads step.new end steps leads.1)

seen-events : (steps : List (Step Cores)) → events_in (map seen steps) ≡ events_in steps
seen-events [] = refl
seen-events (step ∷ steps) = ap (λ (l : List Event). step.event ∷ l) (seen-events steps)

seen-outputs : (steps : List (Step Cores)) → outputs_in (map seen steps) ≡ outputs_in steps
seen-outputs [] = refl
seen-outputs (step ∷ steps) = ap (λ (l : List Output). step.output ∷ l) (seen-outputs steps)

pub keeps_promises : (laws : StepLaws) (opening : Opening) (events : List Event) (outputs : List Output) (end : Cores)
    → length opening.durable < 2 ^ 64 → opening.setup.replicas ≤ replicas_max
    → AllByRecursion (IsPossible opening.setup.workers opening.setup.replicas) events
    → IsLegal (shape_of opening.setup.schema) opening.setup.workers end.primary.durable → RunsSoFar opening events outputs end
    → KeepsPromises opening events outputs
keeps_promises laws opening events outputs end numbered few possible legal run =
    let setup = opening.setup in
    let durable = opening.durable in
    let stopped = opening.stopped in
    let worlds = map seen run.steps in
    let commits = end.primary.durable in
    let told = seen-outputs run.steps ∙ run.outputs_are in
    let allowed =
    all_weaker KeepsStanding (λ (step : Step Cores). IsAllowed (seen step)) run.steps (λ step kept. kept.0) run.kept in
    let fed = all_weaker KeepsStanding (λ (step : Step Cores). AreFed step.new) run.steps (λ step kept. kept.1) run.kept in
    let grow =
    all_weaker (λ (step : Step Cores). IsAllowed (seen step))
    (λ (step : Step Cores). IsBeginning step.old.primary.durable step.new.primary.durable) run.steps
    (λ step may. (step-fine laws (world_of step.old) step.event step.output (world_of step.new) may).grows) allowed in
    let runs : Runs (opening_world setup durable stopped) worlds (world_of end) = record {
      leads =
          subst (λ (w : World). LeadsTo w worlds (world_of end)) (world-started opening)
          (seen-leads (cores_started opening) end run.steps run.leads);
      allowed = all_map seen IsAllowed run.steps allowed;
    } in
    let can =
    subst (AllByRecursion (IsPossible setup.workers setup.replicas)) (sym (seen-events run.steps ∙ run.events_are)) possible in
    let exact = allowed-exact laws setup durable stopped worlds (world_of end) numbered few can runs in
    let database =
    subst (λ (l : List Event). IsRunWithRenewals setup.schema (new_database durable setup.replicas) l outputs (database_of (world_of end)))
    (seen-events run.steps ∙ run.events_are)
    (subst
    (λ (l : List Output). IsRunWithRenewals setup.schema (new_database durable setup.replicas) (events_in worlds) l
    (database_of (world_of end))) told
    (runs-of-database laws setup durable stopped worlds (world_of end) numbered few can runs)) in
    let has : AreOfOneRun opening events outputs = record {
      run = record {
        steps = run.steps;
        end = end;
        events_are = run.events_are;
        outputs_are = run.outputs_are;
        leads = run.leads;
        allowed = runs;
      };
      exact = exact;
      legal = legal;
      cores = record {
        fed = fed;
        journal = all_weaker KeepsStanding (λ (step : Step Cores). JournalStands step.new) run.steps (λ step kept. kept.2) run.kept;
        leaves =
            all_weaker KeepsStanding (λ (step : Step Cores). LeavesOnJournal step.old step.event step.new) run.steps (λ step kept. kept.3)
            run.kept;
        tables = run-stands opening end run.steps run.leads allowed grow fed;
      };
      database = database;
    } in
    record {
      promise =
          λ none. (
            database_of (world_of end),
            run-of-page setup.schema (new_database durable setup.replicas) (database_of (world_of end)) events outputs none database,
          );
      renewed = (database_of (world_of end), database);
      each =
          ap length (sym run.outputs_are) ∙ length-map run.steps (λ (step : Step Cores). step.output)
          ∙ sym (length-map run.steps (λ (step : Step Cores). step.event)) ∙ ap length run.events_are;
      run = has;
      dumps = subst HasOneDumpOfVersion told (run-dumps setup durable stopped worlds (world_of end) commits runs exact.reports);
      faultless = subst (AllByRecursion IsFaultless) told exact.faultless;
    }

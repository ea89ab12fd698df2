-- Each step of a run is by the one list of commits that is durable at its end.
use Rattle.std.proofs.Common.{List, [], ◌∷◌, ◌++◌, sym, ap, subst, ◌∙◌}
use Rattle.std.specs.List.{AllByRecursion}
use Rattle.std.proofs.lemmas.List.{append-nil, append_assoc}
use Rattle.rows.specs.declared.commit.Commit.{Commit}
use Rattle.rows.specs.Shape.{shape_of}
use Rattle.rows.specs.Tables.{Tables}
use Rattle.journal.specs.Recovery.{IsBeginning}
use Rattle.dispatcher.specs.Report.{report_of}
use Rattle.dispatcher.specs.TableText.{names_of, table_text}
use Rattle.world.proofs.Durable.{tables-stay}
use Rattle.script.specs.declared.event.Event.{Event}
use Rattle.script.specs.declared.output.Output.{Output}
use Rattle.script.specs.declared.output.Output.TheVariants as outputs
use Rattle.world.specs.Steps.{World, opening_world}
use Rattle.world.specs.Allowed.{Step, LeadsTo, events_in, IsAllowed}
use Rattle.world.specs.Theorem.{SaysRows, IsFaultless, AllowedRunsAreExact}
use Rattle.world.specs.Inner.Fresh.{Fresh, HasBoot}
use Rattle.world.specs.Inner.Undamaged.{IsUndamaged}
use Rattle.world.specs.Inner.StepLaws.{StepLaws}
use Rattle.world.proofs.Fresh.{opening-fresh}
use Rattle.world.proofs.Freshness.{step-serves, possible-boots}
use Rattle.world.proofs.Undamaged.{step-fine, opening-undamaged}
use Rattle.world.proofs.Acknowledging.{acknowledged-stands}
use Rattle.world.proofs.Slots.{all_weaker, all_map}

-- ---- one list

pub begins-through : (first mid last : List Commit) → IsBeginning first mid → IsBeginning mid last → IsBeginning first last
begins-through first mid last one two =
    (one.0 ++ two.0, two.1 ∙ ap (λ (l : List Commit). l ++ two.0) one.1 ∙ append_assoc first one.0 two.0)

-- what is said of rows stays exact when commits come behind
rows-stay : (more : List Commit) (old : World) (event : Event) (output : Output) → SaysRows old.primary.durable old event output
    → SaysRows (old.primary.durable ++ more) old event output
rows-stay more old event (outputs.Report text) h =
    let version = h.6.0.version in
    let same = tables-stay (shape_of old.primary.schema) old.primary.durable more version h.6.3 in (
      h.0,
      h.1,
      h.2,
      h.3,
      h.4,
      h.5,
      (
        h.6.0,
        h.6.1,
        h.6.2,
        h.6.3,
        h.6.4 ∙ ap (λ (tables : Tables). report_of tables version h.2.plans) (sym same),
      ),
    )
rows-stay more old event (outputs.Dump text) h =
    let version = h.1.protocol.version in
    let same = tables-stay (shape_of old.primary.schema) old.primary.durable more version h.4.1 in (
      h.0,
      h.1,
      h.2,
      h.3,
      (h.4.0, h.4.1, h.4.2 ∙ ap (table_text (names_of old.primary.schema) version) (sym same)),
    )
rows-stay more old event other h = tt

-- ---- the world, whoever makes it

-- what is durable at the beginning of a run is the beginning of what is durable at its end
pub run-grows : {State : Type 0} (durable : State → List Commit) (old end : State) (steps : List (Step State)) → LeadsTo old steps end
    → AllByRecursion (λ (step : Step State). IsBeginning (durable step.old) (durable step.new)) steps
    → IsBeginning (durable old) (durable end)
run-grows durable old end [] leads grows = ([], ap durable leads ∙ sym (append-nil (durable old)))
run-grows durable old end (step ∷ steps) leads grows =
    begins-through (durable old) (durable step.new) (durable end)
    (subst (λ s. IsBeginning (durable s) (durable step.new)) leads.0 grows.0)
    (run-grows durable step.new end steps leads.1 grows.1)

-- each step that may happen keeps what is durable
pub allowed-grow : (laws : StepLaws) (steps : List (Step World)) → AllByRecursion IsAllowed steps
    → AllByRecursion (λ (step : Step World). IsBeginning step.old.primary.durable step.new.primary.durable) steps
allowed-grow laws steps =
    all_weaker IsAllowed (λ (step : Step World). IsBeginning step.old.primary.durable step.new.primary.durable) steps
    (λ step may. (step-fine laws step.old step.event step.output step.new may).grows)

-- what a step says by the list that is durable at the end, and that it reports no damage
abbrev IsTold : List Commit → Step World → Type 0
IsTold commits step = SaysRows commits step.old step.event step.output × IsFaultless step.output

run-told : (laws : StepLaws) (old end : World) (steps : List (Step World)) → AllByRecursion HasBoot (events_in steps) → IsUndamaged old
    → Fresh old → LeadsTo old steps end → AllByRecursion IsAllowed steps → AllByRecursion (IsTold end.primary.durable) steps
run-told laws old end [] boots undamaged fresh leads allowed = tt
run-told laws old end (step ∷ steps) boots undamaged fresh leads allowed =
    let whole = subst IsUndamaged (sym leads.0) undamaged in
    let fine = step-fine laws step.old step.event step.output step.new allowed.0 in
    let serves = step-serves laws step.old step.event step.output step.new boots.0 (subst Fresh (sym leads.0) fresh) allowed.0 in
    let later = run-grows (λ (w : World). w.primary.durable) step.new end steps leads.1 (allowed-grow laws steps allowed.1) in
    let begins = begins-through step.old.primary.durable step.new.primary.durable end.primary.durable fine.grows later in (
      (
        subst (λ (l : List Commit). SaysRows l step.old step.event step.output) (sym begins.1)
            (rows-stay begins.0 step.old step.event step.output serves.rows),
        fine.output whole,
      ),
      run-told laws step.new end steps boots.1 (fine.undamaged whole) serves.fresh leads.1 allowed.1,
    )

pub allowed-exact : (laws : StepLaws) → AllowedRunsAreExact
allowed-exact laws setup durable stopped steps end numbered few possible run =
    let told =
    run-told laws (opening_world setup durable stopped) end steps (possible-boots setup.workers setup.replicas (events_in steps) possible)
    (opening-undamaged setup durable stopped) (opening-fresh setup durable stopped numbered few) run.leads run.allowed in
    record {
      reports =
          all_weaker (IsTold end.primary.durable)
          (λ (step : Step World). SaysRows end.primary.durable step.old step.event step.output) steps
          (λ step says. says.0) told;
      durable = allowed-grow laws steps run.allowed;
      acknowledged = acknowledged-stands laws (opening_world setup durable stopped) end steps run.leads run.allowed;
      faultless =
          all_map (λ (step : Step World). step.output) IsFaultless steps
          (all_weaker (IsTold end.primary.durable) (λ (step : Step World). IsFaultless step.output) steps (λ step says. says.1) told);
    }

-- Two replicas that stand at one version hold the same tables, at whatever two moments of a run.
use Rattle.std.proofs.Common.{◌≡◌, ℕ, zero, suc, ◌≤◌, false, List, [], ◌∷◌, ◌++◌, length, map, refl, sym, ap, subst, ◌∙◌}
use Rattle.std.proofs.Common.{arith}
use Rattle.std.specs.List.{AllByRecursion}
use Rattle.std.proofs.lemmas.List.{length-append}
use Rattle.rows.specs.declared.commit.Commit.{Commit}
use Rattle.rows.specs.declared.kind.Kind.{Kind}
use Rattle.rows.specs.Shape.{Shape, shape_of}
use Rattle.rows.specs.Commits.{tables_after}
use Rattle.journal.specs.Recovery.{IsBeginning}
use Rattle.dispatcher.specs.Feeding.{IsFedFrom}
use Rattle.dispatcher.specs.State.{Replica}
use Rattle.world.specs.Cores.{Cores, Opening, replicas_from, cores_started}
use Rattle.world.specs.Allowed.{Step, LeadsTo, IsAllowed}
use Rattle.world.specs.Standing.{world_of, AreFed, TablesAgree}
use Rattle.world.specs.Theorem.{seen, cores_of}
use Rattle.world.proofs.Durable.{tables-stay}
use Rattle.world.proofs.Lists.{All-get}
use Rattle.world.proofs.Reports.{run-grows}
use Rattle.world.proofs.Requested.{step-counts}
use Rattle.world.proofs.Slots.{all_weaker}

-- a replica that is not broken holds the tables after exactly the commits of the list up to its version
abbrev Holds : Shape → List Commit → Replica → Type 0
Holds shape commits r = r.broken ≡ false → (r.version ≤ length commits) × (r.tables ≡ tables_after shape commits r.version)

abbrev AllHold : Shape → List Commit → Cores → Type 0
AllHold shape commits p = AllByRecursion (Holds shape commits) p.replicas

-- and so it does by each list that goes on from that
hold-longer : (shape : Shape) (commits more : List Commit) (p : Cores) → AllHold shape commits p → AllHold shape (commits ++ more) p
hold-longer shape commits more p =
    all_weaker (Holds shape commits) (Holds shape (commits ++ more)) p.replicas
    (λ r holds whole. let held = holds whole in let below = held.0 in
    (omega (arith, length-append commits more), held.1 ∙ sym (tables-stay shape commits more r.version below)))

fed-hold : (schema : List (List ℕ × List Kind)) (p : Cores) → p.primary.schema ≡ schema → AreFed p
    → AllHold (shape_of schema) p.primary.durable p
fed-hold schema p same fed =
    subst (λ (s : List (List ℕ × List Kind)). AllHold (shape_of s) p.primary.durable p) same
    (all_weaker (IsFedFrom (shape_of p.primary.schema) p.primary.durable) (Holds (shape_of p.primary.schema) p.primary.durable) p.replicas
    (λ r feeding whole. (feeding.below, feeding.tables_are whole)) fed)

-- what the cores through which a run goes are, by the list that is durable at its end
abbrev Told : List (List ℕ × List Kind) → List Commit → Cores → Type 0
Told schema commits p = (p.primary.schema ≡ schema) × AllHold (shape_of schema) commits p

told-later : (schema : List (List ℕ × List Kind)) (commits more : List Commit) (p : Cores) → IsBeginning commits more
    → Told schema commits p → Told schema more p
told-later schema commits more p begins told = (
  told.0,
  subst (λ (l : List Commit). AllHold (shape_of schema) l p) (sym begins.1)
      (hold-longer (shape_of schema) commits begins.0 p told.1),
)

-- the cores that each step leaves, if every replica there is fed from what is durable
steps-told : (schema : List (List ℕ × List Kind)) (old end : Cores) (steps : List (Step Cores)) → old.primary.schema ≡ schema
    → LeadsTo old steps end → AllByRecursion (λ (step : Step Cores). IsAllowed (seen step)) steps
    → AllByRecursion (λ (step : Step Cores). IsBeginning step.old.primary.durable step.new.primary.durable) steps
    → AllByRecursion (λ (step : Step Cores). AreFed step.new) steps
    → AllByRecursion (Told schema end.primary.durable) (map (λ (step : Step Cores). step.new) steps)
steps-told schema old end [] same leads allowed grow fed = tt
steps-told schema old end (step ∷ steps) same leads allowed grow fed =
    let stays = step-counts (world_of step.old) step.event step.output (world_of step.new) allowed.0 in
    let here = stays.schema ∙ ap (λ (p : Cores). p.primary.schema) leads.0 ∙ same in
    let later = run-grows (λ (p : Cores). p.primary.durable) step.new end steps leads.1 grow.1 in (
      told-later schema step.new.primary.durable end.primary.durable step.new later (here, fed-hold schema step.new here fed.0),
      steps-told schema step.new end steps here leads.1 allowed.1 grow.1 fed.1,
    )

-- replicas at the beginning have no rows, whatever is durable
started-hold : (schema : List (List ℕ × List Kind)) (workers number count : ℕ) (durable : List Commit)
    → AllByRecursion (Holds (shape_of schema) durable) (replicas_from schema workers number count)
started-hold schema workers number zero durable = tt
started-hold schema workers number (suc count) durable =
    (λ whole. (omega arith, refl), started-hold schema workers (suc number) count durable)

told-agree : (schema : List (List ℕ × List Kind)) (commits : List Commit) (p q : Cores) → Told schema commits p → Told schema commits q
    → TablesAgree p q
told-agree schema commits p q one two i j r other here there whole sound same =
    (All-get (Holds (shape_of schema) commits) p.replicas one.1 i r here whole).1
    ∙ ap (tables_after (shape_of schema) commits) same
    ∙ sym (All-get (Holds (shape_of schema) commits) q.replicas two.1 j other there sound).1

pub run-stands : (opening : Opening) (end : Cores) (steps : List (Step Cores)) → LeadsTo (cores_started opening) steps end
    → AllByRecursion (λ (step : Step Cores). IsAllowed (seen step)) steps
    → AllByRecursion (λ (step : Step Cores). IsBeginning step.old.primary.durable step.new.primary.durable) steps
    → AllByRecursion (λ (step : Step Cores). AreFed step.new) steps
    → AllByRecursion (λ (p : Cores). AllByRecursion (TablesAgree p) (cores_of opening steps)) (cores_of opening steps)
run-stands opening end steps leads allowed grow fed =
    let schema = opening.setup.schema in
    let commits = end.primary.durable in
    let cores = cores_of opening steps in
    let start = cores_started opening in
    let at_start : Told schema opening.durable start =
    (refl, started-hold schema opening.setup.workers 0 opening.setup.replicas opening.durable) in
    let later = run-grows (λ (p : Cores). p.primary.durable) start end steps leads grow in
    let told : AllByRecursion (Told schema commits) cores = (
      told-later schema opening.durable commits start later at_start,
      steps-told schema start end steps refl leads allowed grow fed,
    ) in
    all_weaker (Told schema commits) (λ (p : Cores). AllByRecursion (TablesAgree p) cores) cores
    (λ p one. all_weaker (Told schema commits) (TablesAgree p) cores (λ q two. told-agree schema commits p q one two) told) told

-- The primary starts on a journal without bytes, and the parts are made around it.
use Rattle.std.proofs.Common.{◌≡◌, [], sym, ap, subst, ◌∙◌}
use Rattle.rows.specs.Shape.{shape_of}
use Rattle.journal.specs.declared.form.Form.TheVariants.{New}
use Rattle.primary.specs.State.{Primary}
use Rattle.primary.specs.Steps.{started_primary}
use Rattle.script.specs.declared.setup.Setup.{Setup}
use Rattle.world.specs.declared.primary_node.PrimaryNode.TheVariants.{Running}
use Rattle.world.specs.Cores.{cores_started}
use Rattle.world.specs.Inner.Nodes.{opening_of, AreNewReplicas}
use Rattle.world.proofs.Nodes.{nothing_kept, opening_new}
use Rattle.world.proofs.cores.Cores.start.Goals as goal

pub start_on-requires-clause-kept : goal.start_on-requires-clause-kept
start_on-requires-clause-kept c =
    (New, [], 0, nothing_kept c.args.setup.now.workers (shape_of c.args.setup.now.schema) c.new-journal.result.bytes c.new-journal.ensures)

pub around-requires : goal.around-requires
around-requires c =
    let setup = c.args.setup.now in
    let made = c.in_ok-replicas.replicas in
    let core = c.in-Ok.primary in
    let kept = nothing_kept setup.workers (shape_of setup.schema) c.new-journal.result.bytes c.new-journal.ensures in
    let primary = (c.in-Ok.ensures.ok New [] 0 kept).0 in
    let still = primary ∙ ap (λ (p : Primary). started_primary setup.schema setup.workers p.durable) (sym primary) in
    record {
      new =
          subst (λ (s : Setup). AreNewReplicas s made.cores.items made.boots.items made.asked_at.items) (sym c.in_ok-replicas.ensures.setup)
          c.in_ok-replicas.ensures.new;
      still =
          subst (λ (s : Setup). core.primary ≡ started_primary s.schema s.workers core.primary.durable)
          (sym c.in_ok-replicas.ensures.setup) still;
    }

pub returns : goal.returns
returns c =
    let setup = c.args.setup.now in
    let core = c.in-Ok.primary in
    let kept = nothing_kept setup.workers (shape_of setup.schema) c.new-journal.result.bytes c.new-journal.ensures in
    let started = c.in-Ok.ensures.ok New [] 0 kept in
    c.around.ensures ∙ ap (λ (s : Setup). cores_started (opening_of s (Running core))) c.in_ok-replicas.ensures.setup
    ∙ ap cores_started (opening_new setup core started.0 started.1 c.in-Ok.ensures.written)

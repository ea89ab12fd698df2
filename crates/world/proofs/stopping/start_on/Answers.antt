-- Bytes that are recovered are not refused, and in one way.
use Rattle.std.proofs.Common.{List, length, refl, ap, ◌∙◌}
use Rattle.rows.specs.declared.commit.Commit.{Commit}
use Rattle.rows.specs.Shape.{shape_of}
use Rattle.journal.specs.declared.form.Form.{Form}
use Rattle.journal.specs.Text.{started}
use Rattle.primary.specs.Steps.{started_primary}
use Rattle.world.proofs.stopping.start_on.Goals as goal

pub unreachable-requires-in-Err-default-Journal : goal.unreachable-requires-in-Err-default-Journal
unreachable-requires-in-Err-default-Journal c =
    let kept = c.requires.kept in
    let told = rw c.in-Err-default-Journal.field-0-1-is at c.in-Err-default-Journal.ensures.refused in
    c.stops_are_recovered.ensures.not_refused kept.0 c.args.workers (shape_of c.args.schema.now) c.args.journal.bytes kept.1 kept.2
    c.in-Err-default-Journal.field-0-1-0 kept.3 told.0 (told.1 refl)

pub returns-in-Ok-clause-ok : goal.returns-in-Ok-clause-ok
returns-in-Ok-clause-ok c form commits bytes_kept found =
    let core = c.in-Ok.primary in
    let durable = core.primary.durable in
    let kept = c.in-Ok.ensures.kept refl in
    let same =
    c.stops_are_recovered.ensures.once kept.0 form c.args.workers (shape_of c.args.schema.now) c.args.journal.bytes durable commits kept.1
    bytes_kept kept.2 found in
    rw c.of.ensures (
      c.in-Ok.ensures.ok ∙ ap (λ (l : List Commit). started_primary c.args.schema.now c.args.workers l) same.1,
      kept.3 ∙ ap (λ (f : Form). started f (length durable)) same.0 ∙ ap (λ (l : List Commit). started form (length l)) same.1,
    )

-- A request without jobs takes none.
use Rattle.std.proofs.Common.{◌≡◌, refl, ap, sym, ◌∙◌, subst, ℕ, List, [], false, not}
use Rattle.std.specs.Prelude.{bytes_eq, codes}
use Rattle.http_uri.specs.Uri.{uri_path}
use Rattle.rows.specs.Shape.{shape_of}
use Rattle.gateway.specs.Jobs.{DeskState, TakesJobs}
use Rattle.gateway.proofs.Seats.{takes-none}
use Rattle.gateway.proofs.job_desk.JobDesk.take.Goals as goal

pub returns-then-ne : goal.returns-then-ne
returns-then-ne g c = λ kept.
    let workers = g.L.Line.workers in
    let shape = shape_of g.L.Line.schema in
    let new = c.tell_path.new.self in (
      subst (λ (d : DeskState). d.has_lost ≡ false) c.tell_path.ensures kept,
      (
        [],
        subst (λ (d : DeskState). TakesJobs workers shape d.job_seat new.job_seat []) c.tell_path.ensures
            (takes-none workers shape new.job_seat),
        λ has. absurd (cc (sym c.if-ne.true ∙ (c.ne.ensures
            ∙ ap (λ (path : List ℕ). not (bytes_eq path (codes "/jobs")))
            (c.path-path.ensures.value ∙ (ap uri_path c.uri.ensures ∙ has.1))))),
        λ no. refl,
      ),
    )

pub returns-then-ne-2 : goal.returns-then-ne-2
returns-then-ne-2 g c = λ kept. (
  kept,
  (
    [],
    takes-none g.L.Line.workers (shape_of g.L.Line.schema) c.args.self.now.job_seat,
    λ has. c.tell_no_post.ensures,
    λ no. refl,
  ),
)

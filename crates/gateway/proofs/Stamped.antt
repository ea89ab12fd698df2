-- An answer tells the same of jobs if a field is added to it.
use Rattle.std.proofs.Common.{◌≡◌, ap, sym, ◌∙◌, subst, ℕ, ◌<◌, List}
use Rattle.http.specs.declared.request.Request.{Request}
use Rattle.http_server.specs.declared.response.Response.{Response}
use Rattle.rows.specs.Shape.{Shape}
use Rattle.sockets.specs.declared.job_answer.JobAnswer.{JobAnswer}
use Rattle.gateway.specs.Jobs.{DeskState, Tells, AnswersJobs}

tells-stamped : (told : List JobAnswer) (old new : Response) → new.status ≡ old.status → new.body ≡ old.body → Tells told old
    → Tells told new
tells-stamped told old new status body tells = record {
  all = (λ good.
      let is = tells.all (sym status ∙ good) in
      (is.0, is.1, ap (λ (b : _). b.items) body ∙ is.2));
  some = (λ conflict.
      let is = tells.some (sym status ∙ conflict) in
      (is.0, ap (λ (b : _). b.items) body ∙ is.1));
  other = (λ low good conflict.
      tells.other (subst (λ (s : ℕ). s < 500) status low) (λ is. good (status ∙ is)) (λ is. conflict (status ∙ is)));
}

pub answers-stamped : (workers : ℕ) (shape : Shape) (old : DeskState) (request : Request (List ℕ)) (before after : Response)
    (new : DeskState) → after.status ≡ before.status → after.body ≡ before.body → AnswersJobs workers shape old request before new
    → AnswersJobs workers shape old request after new
answers-stamped workers shape old request before after new status body answers = λ kept.
    let is = answers kept in
    (is.0, (is.1.0, is.1.1, λ has. tells-stamped is.1.0 before after status body (is.1.2 has), is.1.3))

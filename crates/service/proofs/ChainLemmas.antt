-- Calls of a service that is held, or whose answers stand at once, are calls of that service.
use Rattle.std.proofs.Common.{ℕ, List, [], ◌∷◌, ◌++◌, ap, Option, None, Some}
use Rattle.http.specs.declared.request.Request.{Request}
use Rattle.http_server.specs.declared.response.Response.{Response}
use Rattle.http_server.specs.Exchange.{Call, Chain, Calls}
use Rattle.http_server.proofs.StreamLemmas.{Chain-append}
use Rattle.service.specs.declared.held.Held.{Held}
use Rattle.service.specs.declared.standing.Standing.{Standing}
use Rattle.service.specs.declared.denial.Denial.{Denial}
use Rattle.service.specs.Denials.{denial_of, AnswersAt, WithDenials}
use Rattle.service.specs.Rounds.{Leads}

module _ {S : Type 0} (answers : S → Request (List ℕ) → Response → S → Type 0) where
  pub Chain-inner : (xs : List Call) (a b : Held S)
      → Chain (λ old request response new. answers old.inner request response new.inner) a xs b → Chain answers a.inner xs b.inner
  Chain-inner [] a b x = ap (λ (h : Held S). h.inner) x
  Chain-inner (c ∷ xs) a b x = (x.0.inner, x.1, Chain-inner xs x.0 b x.2)

  pub Calls-inner : (a b : Held S) (xs ys : List Call)
      → Calls (λ old request response new. answers old.inner request response new.inner) a b xs ys → Calls answers a.inner b.inner xs ys
  Calls-inner a b xs ys x = (x.0, x.1, Chain-inner x.0 a b x.2)

  pub Leads-then : (a b c : S) → Leads answers a b → Leads answers b c → Leads answers a c
  Leads-then a b c x y = (x.0 ++ y.0, Chain-append answers x.0 y.0 a b c x.1 y.1)

  pub Answers-standing : (denial : Option Denial) (a b : Standing S) (request : Request (List ℕ)) (response : Response)
      → AnswersAt denial (λ old request response new. answers old.inner request response new.inner) a request response b
      → AnswersAt denial answers a.inner request response b.inner
  Answers-standing None a b request response x = x
  Answers-standing (Some denial) a b request response x = (x.0, ap (λ (it : Standing S). it.inner) x.1)

  pub Chain-standing : (xs : List Call) (a b : Standing S)
      → Chain (WithDenials (λ old request response new. answers old.inner request response new.inner)) a xs b
      → Chain (WithDenials answers) a.inner xs b.inner
  Chain-standing [] a b x = ap (λ (it : Standing S). it.inner) x
  Chain-standing (c ∷ xs) a b x = (
    x.0.inner,
    Answers-standing (denial_of c.0) a x.0 c.0 c.1 x.1,
    Chain-standing xs x.0 b x.2,
  )

  pub Calls-standing : (a b : Standing S) (xs ys : List Call)
      → Calls (WithDenials (λ old request response new. answers old.inner request response new.inner)) a b xs ys
      → Calls (WithDenials answers) a.inner b.inner xs ys
  Calls-standing a b xs ys x = (x.0, x.1, Chain-standing x.0 a b x.2)

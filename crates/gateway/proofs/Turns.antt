-- Turns, one after the other.
use Rattle.std.proofs.Common.{refl, subst, ℕ, List, [], ◌∷◌, ◌++◌}
use Rattle.rows.specs.Shape.{Shape}
use Rattle.service.specs.Denials.{WithDenials}
use Rattle.service.specs.Houses.{HasTurned}
use Rattle.gateway.specs.Jobs.{DeskState, AnswersJobs, SettlesJobs}
use Rattle.gateway.specs.Serving.{LeadsOver, Serves}

leads-more : (workers : ℕ) (shape : Shape) (states : List DeskState) (old mid new : DeskState) → LeadsOver workers shape states old mid
    → HasTurned (WithDenials (AnswersJobs workers shape)) (SettlesJobs workers shape) mid new
    → LeadsOver workers shape (states ++ new ∷ []) old new
leads-more workers shape [] old mid new leads turned =
    (subst (λ (d : DeskState). HasTurned (WithDenials (AnswersJobs workers shape)) (SettlesJobs workers shape) d new) leads turned, refl)
leads-more workers shape (first ∷ states) old mid new leads turned =
    (leads.0, leads-more workers shape states first mid new leads.1 turned)

-- one turn more
pub serves-more : (workers : ℕ) (shape : Shape) (old mid new : DeskState) → Serves workers shape old mid
    → HasTurned (WithDenials (AnswersJobs workers shape)) (SettlesJobs workers shape) mid new → Serves workers shape old new
serves-more workers shape old mid new serves turned =
    (serves.0 ++ new ∷ [], leads-more workers shape serves.0 old mid new serves.1 turned)

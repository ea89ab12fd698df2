-- What serving clients does with a desk.
use Rattle.std.specs.Prelude.{◌≡◌, ℕ, List, [], ◌∷◌, Result, Ok, Err, false}
use Rattle.rows.specs.Shape.{Shape}
use Rattle.service.specs.Denials.{WithDenials}
use Rattle.service.specs.Houses.{HasTurned}
use Rattle.service.specs.Rounds.{Leads}
use Rattle.gateway.specs.declared.serving.ServingFault.{ServingFault}
use Rattle.gateway.specs.declared.serving.ServingFault.TheVariants.{System, Unsettled}
use Rattle.gateway.specs.Jobs.{DeskState, AnswersJobs, SettlesJobs}

-- turns lead from one state of a desk to another, over these
abbrev pub LeadsOver : ℕ → Shape → List DeskState → DeskState → DeskState → Type 0
LeadsOver workers shape [] old new = new ≡ old
LeadsOver workers shape (mid ∷ states) old new =
    HasTurned (WithDenials (AnswersJobs workers shape)) (SettlesJobs workers shape) old mid × LeadsOver workers shape states mid new

abbrev pub Serves : ℕ → Shape → DeskState → DeskState → Type 0
Serves workers shape old new = (states : List DeskState) × LeadsOver workers shape states old new

-- a turn whose answers do not stand
abbrev pub DoesNotStand : ℕ → Shape → DeskState → DeskState → Type 0
DoesNotStand workers shape old new =
    (called : DeskState) × Leads (WithDenials (AnswersJobs workers shape)) old called × SettlesJobs workers shape called false new

-- turns that ended well; or by a call of the system that failed; or the answers of the last one do not stand
abbrev pub HasServed : ℕ → Shape → DeskState → DeskState → Result (Unit {0}) ServingFault → Type 0
HasServed workers shape old new (Ok done) = Serves workers shape old new
HasServed workers shape old new (Err (System error)) = Serves workers shape old new
HasServed workers shape old new (Err Unsettled) =
    (mid : DeskState) × Serves workers shape old mid × DoesNotStand workers shape mid new

-- What is known of replicas that are fed from a list of commits, and of steps.
use Rattle.dispatcher.specs.Feeding.{FreshIsFed, CommitsKeepFed, TruthStays, BytesKeepFed, TrueHeadGoesOn, TrueFrameIsTaken}
use Rattle.dispatcher.specs.Feeding.{TruePieceIsTaken, OpenKeepsFed, AskKeepsFed, RenewKeepsFed, RunKeepsFed, ReadyIsAnswered}
use Rattle.dispatcher.specs.Feeding.{DumpIsTables, StepsKeepIdentity}
use Rattle.world.specs.Inner.StepLaws.{StepLaws}

pub record FedLaws : Type 0 where
  pub fresh : FreshIsFed
  pub commits : CommitsKeepFed
  pub truth : TruthStays
  pub bytes : BytesKeepFed
  pub head : TrueHeadGoesOn
  pub frame : TrueFrameIsTaken
  pub piece : TruePieceIsTaken
  pub opening : OpenKeepsFed
  pub asking : AskKeepsFed
  pub renewing : RenewKeepsFed
  pub running : RunKeepsFed
  pub ready : ReadyIsAnswered
  pub dump : DumpIsTables
  pub identity : StepsKeepIdentity
  pub steps : StepLaws

-- What is known below of the tables that a transaction sees, and of the datagrams that are sent.
use Rattle.rows.specs.Laws.{AppliedTellKinds}
use Rattle.rows.specs.ListLaws.{OneMoreEntryIsDefined, PresenceIsTold}
use Rattle.wire.specs.Laws.{SpelledAreRead}

pub record StepLaws : Type 0 where
  pub applied : AppliedTellKinds
  pub longer : OneMoreEntryIsDefined
  pub presence : PresenceIsTold
  pub reads : SpelledAreRead

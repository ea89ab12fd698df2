-- What is known of bytes that arrive: they were sent, or are no datagram.
use Rattle.std.proofs.Common.{◌≡◌, ℕ, false, List, Some, Result}
use Rattle.std.specs.List.{slice_get}
use Rattle.rows.specs.Shape.{Shape}
use Rattle.wire.specs.declared.datagram.Datagram.{Datagram}
use Rattle.wire.specs.declared.faults.WireFault.{WireFault}
use Rattle.wire.specs.Reading.{reading}
use Rattle.dispatcher.specs.Feeding.{Tells}
use Rattle.world.specs.Cores.{Cores}
use Rattle.world.specs.Standing.{world_of}
use Rattle.world.specs.Steps.{is_forged}
use Rattle.world.specs.Inner.Fresh.{IsFreshReading, Fresh}
use Rattle.world.specs.Inner.Sound.{Sound}
use Rattle.world.proofs.Raw.{unforged}

-- what they read as is true of the durable list, and fresh
pub record Means (shape : Shape) (p : Cores) (datagram : Result Datagram WireFault) : Type 0 where
  pub tells : Tells shape p.primary.workers p.primary.durable datagram
  pub fresh : IsFreshReading p.primary.durable (world_of p).members datagram

module _ (shape : Shape) (p : Cores) where
  pub sent-means : Sound shape p → Fresh (world_of p) → (i : ℕ) (bytes : List ℕ) → slice_get p.sent i ≡ Some bytes
      → Means shape p (reading bytes)
  sent-means sound fresh i bytes here = record { tells = sound.sent_is i bytes here; fresh = fresh.sent_is i bytes here }

  pub raw-means : (bytes : List ℕ) → Sound shape p → Fresh (world_of p) → is_forged p.sent bytes ≡ false
      → Means shape p (reading bytes)
  raw-means bytes sound fresh = unforged (Means shape p) p.sent bytes (λ fault. record { tells = tt; fresh = tt }) (sent-means sound fresh)

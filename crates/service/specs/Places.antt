-- What a clause reads of the connections of one thread.
use Rattle.std.specs.Prelude.{◌≡◌, ◌<◌, ◌≤◌, ℕ, List, length, slice_index_or, All, Option, None, IsSome}
use Rattle.service.specs.declared.guest.Guest.{Guest}
use Rattle.service.specs.declared.limits.Limits.{Limits}
use Rattle.service.specs.declared.rounds.Rounds.{Rounds}
use Rattle.service.specs.declared.visits.Visits.{Visits}

-- the service that answers them
abbrev pub service_of : {S T : Type 0} → Rounds S T → S
service_of rounds = rounds.held.inner

-- the connection at each place
abbrev pub guests_of : {S T : Type 0} → Rounds S T → List (Option Guest)
guests_of rounds = rounds.guests.items

-- the limits of these connections
abbrev pub limits_of : {S T : Type 0} → Rounds S T → Limits
limits_of rounds = rounds.limits

-- a place is there, and empty
abbrev pub IsFree : List (Option Guest) → ℕ → Type 0
IsFree guests place = (place < length guests) × (slice_index_or guests place None ≡ None)

-- no place is empty, and there may be no more
abbrev pub IsFull : Limits → List (Option Guest) → Type 0
IsFull limits guests = (limits.connections ≤ length guests) × All IsSome guests

-- the service that answers connections one after another
abbrev pub visited_of : {S : Type 0} → Visits S → S
visited_of visits = visits.held.inner.inner

-- What a turn of a listener and its connections does with the service.
use Rattle.std.specs.Prelude.{◌≡◌, ◌⊎◌, Bool, true, false, List, ℕ}
use Rattle.http.specs.declared.request.Request.{Request}
use Rattle.http_server.specs.declared.response.Response.{Response}
use Rattle.service.specs.Rounds.{Leads}
use Rattle.service.specs.Places.{service_of}
use Rattle.service.specs.declared.house.House.{House}
use Rattle.service.specs.declared.house.HouseFault.{HouseFault}
use Rattle.service.specs.declared.house.HouseFault.TheVariants.{Wait, Unsettled}

-- the service of a listener's connections
abbrev pub served_by : {S : Type 0} → House S → S
served_by house = service_of house.rounds

-- a turn that ended well: no call was made, or calls that then settled
abbrev pub HasTurned : {S : Type 0} → (S → Request (List ℕ) → Response → S → Type 0) → (S → Bool → S → Type 0)
    → S → S → Type 0
HasTurned {S} answers settles old new = (new ≡ old) ⊎ ((called : S) × Leads answers old called × settles called true new)

-- and one that failed: no call was made, or calls that do not stand
abbrev pub HasFailed : {S : Type 0} → (S → Request (List ℕ) → Response → S → Type 0) → (S → Bool → S → Type 0)
    → S → S → HouseFault → Type 0
HasFailed answers settles old new (Wait error) = new ≡ old
HasFailed {S} answers settles old new Unsettled = (called : S) × Leads answers old called × settles called false new

-- What a round does with its connections and its service.
use Rattle.std.specs.Prelude.{◌≡◌, ℕ, Bool, true, false, List, [], map, Option, None, Some}
use Rattle.http.specs.declared.request.Request.{Request}
use Rattle.http_server.specs.declared.response.Response.{Response}
use Rattle.http_server.specs.Connection.{history}
use Rattle.http_server.specs.Exchange.{Call, Chain}
use Rattle.service.specs.declared.guest.Guest.{Guest}

-- calls lead from one state of the service to the other
abbrev pub Leads : {S : Type 0} → (S → Request (List ℕ) → Response → S → Type 0) → S → S → Type 0
Leads answers old new = (calls : List Call) × Chain answers old calls new

-- what was handed out at a place; nothing at one that is empty
abbrev pub sent_at : Option Guest → List ℕ
sent_at None = []
sent_at (Some guest) = (history guest.connection).sent

-- the calls that were made for a place
abbrev pub calls_at : Option Guest → List Call
calls_at None = []
calls_at (Some guest) = (history guest.connection).calls

-- nothing was sent
abbrev pub IsUnsent : List (Option Guest) → List (Option Guest) → Type 0
IsUnsent old new = map sent_at new ≡ map sent_at old

-- A round that ended well: its calls were made, and then their answers settled. Or there was none: the service is unchanged, and nothing
-- was sent.
abbrev pub HasEnded : {S : Type 0} → (S → Request (List ℕ) → Response → S → Type 0) → (S → Bool → S → Type 0)
    → S → S → List (Option Guest) → List (Option Guest) → Bool → Type 0
HasEnded answers settles old new places left false = (new ≡ old) × IsUnsent places left
HasEnded {S} answers settles old new places left true = (called : S) × Leads answers old called × settles called true new

-- a round whose answers do not stand: nothing was sent
abbrev pub IsLost : {S : Type 0} → (S → Request (List ℕ) → Response → S → Type 0) → (S → Bool → S → Type 0)
    → S → S → List (Option Guest) → List (Option Guest) → Type 0
IsLost {S} answers settles old new places left =
    (called : S) × Leads answers old called × settles called false new × IsUnsent places left

-- Requests that wait, and requests that are under way.
use Rattle.std.specs.Prelude.{◌≡◌, ℕ, ◌-◌, ◌≤◌, List, [], ◌∷◌, ◌++◌, ◌⊎◌, Option, Some, None, length, take, vec_len}
use Rattle.gathering.specs.declared.request.Request.{Request}
use Rattle.gathering.specs.declared.request.Part.{Part}
use Rattle.gathering.specs.declared.waiting.Waiting.{Waiting}

-- how many queries a request has
abbrev pub count_of : Part → ℕ
count_of part = part.count

-- a request, once it is under way
abbrev pub part_of_request : Request → Part
part_of_request request = record { place = request.place; count = vec_len request.queries }

-- the first of these requests has so many queries at most
abbrev pub FirstFits : ℕ → List Request → Type 0
FirstFits room [] = ⊥
FirstFits room (request ∷ requests) = vec_len request.queries ≤ room

-- which requests wait and which are under way is unchanged
abbrev pub IsUnmoved : Waiting → Waiting → Type 0
IsUnmoved old new = (new.requests.items ≡ old.requests.items) × (new.under_way.items ≡ old.under_way.items)

-- what is taken where there is room for so many queries: the first request, which is then the last that is under way; or none, if the
-- first does not fit
abbrev pub Takes : ℕ → Waiting → Waiting → Option Request → Type 0
Takes room old new (Some request) =
    (old.requests.items ≡ request ∷ new.requests.items) × (new.under_way.items ≡ old.under_way.items ++ part_of_request request ∷ [])
    × (vec_len request.queries ≤ room)
Takes room old new None = IsUnmoved old new × ¬ (FirstFits room old.requests.items)

-- a request is the first that waits, and what was the last under way is no longer
abbrev pub IsPutBack : Waiting → Waiting → Request → Type 0
IsPutBack old new request =
    (new.requests.items ≡ request ∷ old.requests.items)
    × (new.under_way.items ≡ take (length old.under_way.items - 1) old.under_way.items)

-- whose place is taken away: that of the last request under way, or, if none is, of the first that waits
abbrev pub TakesPlace : Waiting → Waiting → Option ℕ → Type 0
TakesPlace old new (Some place) =
    ((new.requests.items ≡ old.requests.items)
    × ((part : Part) × (old.under_way.items ≡ new.under_way.items ++ part ∷ []) × (part.place ≡ place)))
    ⊎ ((old.under_way.items ≡ []) × (new.under_way.items ≡ [])
    × ((request : Request) × (old.requests.items ≡ request ∷ new.requests.items) × (request.place ≡ place)))
TakesPlace old new None = IsUnmoved old new × (old.requests.items ≡ []) × (old.under_way.items ≡ [])

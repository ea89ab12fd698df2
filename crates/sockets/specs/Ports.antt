-- What a receive answers.
use Rattle.std.specs.Prelude.{ℕ, ◌≤◌, List, [], ◌∷◌, take, Option, None, Some}

-- how many bytes came, if a datagram did, is at most this
abbrev pub IsWithin : ℕ → Option ℕ → Type 0
IsWithin most None = Unit {0}
IsWithin most (Some len) = len ≤ most

-- the datagrams that an answer brings: the front of the buffer, or none
abbrev pub came_of : List ℕ → Option ℕ → List (List ℕ)
came_of buffer None = []
came_of buffer (Some len) = take len buffer ∷ []

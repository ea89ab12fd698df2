-- Laws of the format.
use Rattle.std.specs.Prelude.{◌≡◌, ℕ, List, [], ◌++◌, Ok}
use Rattle.wire.specs.declared.datagram.Datagram.{Datagram}
use Rattle.wire.specs.Reading.{reading}
use Rattle.wire.specs.Spelling.{spelling, HasDatagramSpelling}

-- datagrams that share a spelling are equal
abbrev pub SpellingsAreOneToOne : Type 0
SpellingsAreOneToOne = (datagram other : Datagram) → HasDatagramSpelling datagram → HasDatagramSpelling other
    → spelling datagram ≡ spelling other → datagram ≡ other

-- no spelling is a proper beginning of another
abbrev pub IsPrefixFree : Type 0
IsPrefixFree =
    (datagram other : Datagram) (rest : List ℕ) → HasDatagramSpelling datagram → HasDatagramSpelling other
    → spelling datagram ++ rest ≡ spelling other
    → (datagram ≡ other) × (rest ≡ [])

-- a spelling is read as the datagram that it is of
abbrev pub SpelledAreRead : Type 0
SpelledAreRead = (datagram : Datagram) → HasDatagramSpelling datagram → reading (spelling datagram) ≡ Ok datagram

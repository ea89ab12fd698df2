-- What is made of an image part by part.
use Rattle.std.proofs.Common.{ℕ, ◌+◌, ◌-◌, ◌*◌, ◌<◌, ◌^◌, List, [], ◌∷◌, Option, None, Some, IfSome, inl, inr, arith}
use Rattle.std.specs.Option.{option_map_or}
use Rattle.std.specs.List.{AllByRecursion}
use Rattle.rows.specs.declared.commit.Commit.{Commit}
use Rattle.rows.specs.ImageLaws.{AreSpelled}
use Rattle.rows.specs.Limits.{tables_max}
use Rattle.journal.specs.Recovery.{HasRecord}
use Rattle.mvcc.specs.ImageParts.{IsLaterPlace}
use Rattle.mvcc.specs.declared.image_place.ImagePlace.{ImagePlace}

-- commits that records hold have spellings
pub records-spelled : (commits : List Commit) → AllByRecursion HasRecord commits → AreSpelled commits
records-spelled [] records = tt
records-spelled (commit ∷ commits) records = (records.0.spelled, records-spelled commits records.1)

-- a place of an image, if there is one, is of a table and a row that may be there
abbrev pub MayBePlace : Option ImagePlace → Type 0
MayBePlace place = IfSome place (λ at. (at.table < tables_max) × (at.row < 2 ^ 64))

pub later-place : (before : ImagePlace) (next : Option ImagePlace) → IfSome next (IsLaterPlace before) → MayBePlace next
later-place before None later = tt
later-place before (Some next) later = (later.table, later.row)

-- how much of the identifiers that there may be is behind a place
abbrev pub places_left : Option ImagePlace → ℕ
places_left place = option_map_or (λ at. (tables_max + 1) * 2 ^ 64 - (at.table * 2 ^ 64 + at.row)) place 0

pub fewer-places : (before : ImagePlace) (next : Option ImagePlace) → before.table < tables_max → before.row < 2 ^ 64
    → IfSome next (IsLaterPlace before) → places_left next < places_left (Some before)
fewer-places before None table row later = omega (arith, table, row)
fewer-places before (Some next) table row later = elim later.later [
  | inl less ↦ omega (arith, table, row, less)
  | inr same ↦ omega (arith, table, row, same.0, same.1)
]

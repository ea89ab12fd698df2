-- What a writer took of bytes.
use Rattle.std.specs.Prelude.{◌≡◌, ℕ, List, ◌++◌, Option}
use Rattle.std.specs.Io.KnownBytes.{Appends}

-- of these bytes all were written but those that are left
abbrev pub IsWrittenBut : Option (List ℕ) → Option (List ℕ) → List ℕ → List ℕ → Type 0
IsWrittenBut old new bytes left = (written : List ℕ) × (bytes ≡ written ++ left) × Appends old new written

-- a beginning of these bytes was written
abbrev pub IsPartlyWritten : Option (List ℕ) → Option (List ℕ) → List ℕ → Type 0
IsPartlyWritten old new bytes = (left : List ℕ) × IsWrittenBut old new bytes left

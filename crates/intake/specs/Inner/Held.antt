-- How known seqs are held: the first that is missing, and the known ones above it.
use Rattle.std.specs.Prelude.{◌≡◌, ℕ, ◌+◌, ◌-◌, ◌<◌, ◌≤◌, ◌^◌, List, [], ◌∷◌, ◌++◌, Bool, true, false, ◌==◌, nat_le, nat_lt}
use Rattle.std.specs.List.{range_with_len, filter, AllByRecursion}
use Rattle.intake.specs.Known.{is_known}

-- the seqs that are known where this one is the first that is missing, and these are the known ones above it
abbrev pub seqs_in : ℕ → List ℕ → List ℕ
seqs_in missing above = range_with_len 0 missing ++ above

-- no seq is below this one
abbrev pub AreAtLeast : ℕ → List ℕ → Type 0
AreAtLeast first seqs = AllByRecursion (λ seq. first ≤ seq) seqs

-- each seq is below this one
abbrev pub AreBelow : ℕ → List ℕ → Type 0
AreBelow end seqs = AllByRecursion (λ seq. seq < end) seqs

-- what holds of both: none of the seqs is the greatest number
pub record IsHeld (missing : ℕ) (above : List ℕ) : Type 0 where
  pub from : AreAtLeast (missing + 1) above
  pub below : AreBelow (2 ^ 64 - 1) above

-- whether the first seq is this one
abbrev pub begins_at : List ℕ → ℕ → Bool
begins_at [] seq = false
begins_at (first ∷ seqs) seq = first == seq

-- whether the first seq is below a base
abbrev pub begins_under : List ℕ → ℕ → Bool
begins_under [] base = false
begins_under (first ∷ seqs) base = nat_lt first base

-- the seqs from a base on
abbrev pub seqs_from : ℕ → List ℕ → List ℕ
seqs_from base seqs = filter (λ seq. nat_le base seq) seqs

-- each seq from the base to before another is known
pub record IsPassed (base next : ℕ) (known : List ℕ) : Type 0 where
  pub up : base ≤ next
  pub passed : (seq : ℕ) → base ≤ seq → seq < next → is_known known seq ≡ true

-- what holds of known seqs that are held with a base and a seq to before which each is known from there
pub record IsKeptAbove (missing : ℕ) (above : List ℕ) (base next : ℕ) : Type 0 where
  pub held : IsHeld missing above
  pub cursor : IsPassed base next (seqs_in missing above)

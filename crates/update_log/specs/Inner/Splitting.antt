-- How a stream is split at a version.
use Rattle.std.specs.Prelude.{◌≡◌, ℕ, ◌<◌, ◌≤◌, List, ◌++◌}
use Rattle.std.specs.List.{AllByRecursion}
use Rattle.update_log.specs.declared.span.Span.{Span}

-- the spans are those of `front` and then those of `back`, the former of commits up to the version, the latter of later ones
pub record IsSplitAt (version : ℕ) (spans front back : List Span) : Type 0 where
  pub whole : spans ≡ front ++ back
  pub upto : AllByRecursion (λ span. span.commit ≤ version) front
  pub behind : AllByRecursion (λ span. version < span.commit) back

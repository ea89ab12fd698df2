-- Octets as they are kept: in 64 bytes, with zeros behind them.
use Rattle.std.specs.Prelude.{◌≡◌, ℕ, ◌≤◌, List, ◌++◌, length, take, drop, replicate}
use Rattle.rows.specs.Limits.{octets_max}

-- these bytes, and zeros up to 64 bytes
abbrev pub padded : List ℕ → List ℕ
padded bytes = bytes ++ drop (length bytes) (replicate octets_max 0)

-- 64 bytes of which the first `len` are in use, and the others are zeros
pub record IsPadded (buffer : List ℕ) (len : ℕ) : Type 0 where
  pub few : len ≤ octets_max
  pub whole : length buffer ≡ octets_max
  pub zeros : buffer ≡ padded (take len buffer)

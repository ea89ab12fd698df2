-- The limits of a plan, as numbers.
use Rattle.std.specs.Prelude.{ℕ}

-- conditions of a plan
abbrev pub conditions_max : ℕ
conditions_max = 8

-- columns by which a plan groups
abbrev pub groups_max : ℕ
groups_max = 2

-- aggregates of a plan
abbrev pub aggregates_max : ℕ
aggregates_max = 8

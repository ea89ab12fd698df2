-- The limit of a batch, as a number.
use Rattle.std.specs.Prelude.{ℕ}

-- plans of a batch
abbrev pub batch_plans_max : ℕ
batch_plans_max = 64

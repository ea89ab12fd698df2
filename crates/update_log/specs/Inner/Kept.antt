-- How the stream of one worker is kept.
use Rattle.std.specs.Prelude.{ℕ, List}
use Rattle.update_log.specs.declared.span.Span.{Span}

pub record Kept : Type 0 where
  pub spans : List Span
  -- how many more it can take without memory
  pub room : ℕ

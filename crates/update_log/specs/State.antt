-- Streams as their callers see them, and what a commit adds to them.
use Rattle.std.specs.Prelude.{ℕ, List}
use Rattle.update_log.specs.declared.span.Span.{Span}

-- the streams that are kept, by worker: where the entries of each frame stand
pub record StreamsState : Type 0 where
  pub streams : List (List Span)
  -- how many more frames each can take without memory
  pub rooms : List ℕ

-- where the entries of the next commit's frames stand, and its worker
pub record Next : Type 0 where
  pub worker : ℕ
  pub spans : List Span

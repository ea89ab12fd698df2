-- The limits of lines and batches, as numbers.
use Rattle.std.specs.Prelude.{ℕ}

-- bytes of a line without its end
abbrev pub line_len_max : ℕ
line_len_max = 65536

-- queries of a batch
abbrev pub batch_queries_max : ℕ
batch_queries_max = 64

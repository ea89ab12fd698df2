-- The limits of the engine, as numbers.
use Rattle.std.specs.Prelude.{ℕ}

-- tables in a schema
abbrev pub tables_max : ℕ
tables_max = 16

-- columns in a table
abbrev pub columns_max : ℕ
columns_max = 16

-- bytes of one column's value
abbrev pub octets_max : ℕ
octets_max = 64

-- bytes in a row
abbrev pub row_width_max : ℕ
row_width_max = 512

-- entries in a commit
abbrev pub commit_entries_max : ℕ
commit_entries_max = 4096

-- workers of a primary; their numbers are below it
abbrev pub workers_max : ℕ
workers_max = 16

-- replicas; their numbers are below it
abbrev pub replicas_max : ℕ
replicas_max = 16

-- bytes of a datagram
abbrev pub datagram_max : ℕ
datagram_max = 1200

-- queries that wait at a replica
abbrev pub waiting_queries_max : ℕ
waiting_queries_max = 64

-- frames of one worker that a replica keeps, counted from the first that is missing
abbrev pub frame_window : ℕ
frame_window = 4096

-- How a schema keeps its tables, seen by name and kinds.
use Rattle.std.specs.Prelude.{ℕ, List}
use Rattle.std.specs.String.{string_bytes}
use Rattle.std.specs.declared.string.String.{String}
use Rattle.std.specs.declared.alloc.Global.{Global}
use Rattle.rows.specs.declared.kind.Kind.{Kind}

-- a table that is kept under its name
abbrev pub kept_table : String Global × List Kind → List ℕ × List Kind
kept_table table = (string_bytes table.0, table.1)

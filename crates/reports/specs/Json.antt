-- A report as JSON. It has the words of the report's text, as strings: none of their bytes needs an escape.
use Rattle.std.specs.Prelude.{ℕ, List, ◌++◌, map, codes, decimal}
use Rattle.std.specs.List.{join_with_byte}
use Rattle.queries.specs.declared.field.Field.{Field}
use Rattle.queries.specs.Report.{field_text}

-- an array of these values, with commas (2c) between them
abbrev pub array_json : List (List ℕ) → List ℕ
array_json values = codes "[" ++ join_with_byte 0x2c values ++ codes "]"

-- a field, as the string of its text
abbrev pub field_json : Field → List ℕ
field_json field = codes "\"" ++ field_text field ++ codes "\""

-- a line of an answer, as the array of its fields
abbrev pub line_json : List Field → List ℕ
line_json fields = array_json (map field_json fields)

-- an answer, as an object of its lines
abbrev pub answer_json : List (List Field) → List ℕ
answer_json lines = codes "{\"rows\":" ++ array_json (map line_json lines) ++ codes "}"

-- answers on the tables at a version, in a line: an object of the version, as a number, and of the answers in the order of the queries
abbrev pub json_text : ℕ → List (List (List Field)) → List ℕ
json_text version answers =
    codes "{\"version\":" ++ decimal version ++ codes ",\"queries\":" ++ array_json (map answer_json answers) ++ codes "}\n"

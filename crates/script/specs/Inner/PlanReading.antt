-- The plan that words give, step by step, as the code finds it.
use Rattle.std.specs.Prelude.{ℕ, suc, zero, ◌^◌, List, [], ◌∷◌, length, drop, ◌==◌, ◌&&◌}
use Rattle.std.specs.Prelude.{Option, None, Some, Result, Ok, Err, if◌then◌else◌, slice_index, codes}
use Rattle.std.specs.Str.{bytes_eq}
use Rattle.rows.specs.declared.kind.Kind.{Kind}
use Rattle.rows.specs.declared.value.Value.{Value}
use Rattle.queries.specs.declared.aggregate.Aggregate.{Aggregate}
use Rattle.queries.specs.declared.aggregate.Aggregate.TheVariants.{Count, Sum, Min, Max}
use Rattle.queries.specs.declared.column.Column.{Column}
use Rattle.queries.specs.declared.column.Column.TheVariants.{Own, Joined}
use Rattle.queries.specs.declared.condition.Comparison.{Comparison}
use Rattle.queries.specs.declared.condition.Comparison.TheVariants.{Equal, NotEqual, Less, AtMost, Greater, AtLeast}
use Rattle.queries.specs.declared.condition.Condition.{Condition}
use Rattle.queries.specs.declared.plan.Join.{Join}
use Rattle.queries.specs.declared.plan.Plan.{Plan}
use Rattle.script.specs.declared.faults.Reason.{Reason}
use Rattle.script.specs.declared.faults.Reason.TheVariants.{BadWords}
use Rattle.script.specs.Text.{is_name}
use Rattle.script.specs.Inner.WordReading.{below_of, value_of, made, table_of}

-- the column that a word is
unfoldable pub column_of : List ℕ → Option Column
column_of word = if slice_index word 0 == 106 then made Joined (below_of (2 ^ 8) (drop 1 word)) else made Own (below_of (2 ^ 8) word)

-- the comparison that a word is
unfoldable pub comparison_of : List ℕ → Option Comparison
comparison_of word =
    if bytes_eq word (codes "=") then Some Equal else
    if bytes_eq word (codes "!=") then Some NotEqual else
    if bytes_eq word (codes "<") then Some Less else
    if bytes_eq word (codes "<=") then Some AtMost else
    if bytes_eq word (codes ">") then Some Greater else
    if bytes_eq word (codes ">=") then Some AtLeast else None

-- a condition, where its parts are there
abbrev pub compared : Option Column → Option Comparison → Option Value → Option Condition
compared None comparison value = None
compared (Some column) None value = None
compared (Some column) (Some comparison) None = None
compared (Some column) (Some comparison) (Some value) = Some (record { column = column; comparison = comparison; value = value })

-- what was read, with the words behind it
abbrev pub before : {A : Type 0} → Option A → List (List ℕ) → Option (A × List (List ℕ))
before None words = None
before (Some part) words = Some (part, words)

-- this word and a condition
unfoldable pub condition_behind : List ℕ → List (List ℕ) → Option (Condition × List (List ℕ))
condition_behind opening (word ∷ column ∷ comparison ∷ value ∷ words) =
    if bytes_eq word opening then before (compared (column_of column) (comparison_of comparison) (value_of value)) words else None
condition_behind opening other = None

-- a column
unfoldable pub column_first : List (List ℕ) → Option (Column × List (List ℕ))
column_first (word ∷ words) = before (column_of word) words
column_first [] = None

-- `by` and a column
unfoldable pub by_first : List (List ℕ) → Option (Column × List (List ℕ))
by_first (word ∷ words) = if bytes_eq word (codes "by") then column_first words else None
by_first [] = None

-- what is asked of a column
unfoldable pub aggregate_of : List ℕ → List ℕ → Option Aggregate
aggregate_of word column =
    if bytes_eq word (codes "sum") then made Sum (column_of column) else
    if bytes_eq word (codes "min") then made Min (column_of column) else
    if bytes_eq word (codes "max") then made Max (column_of column) else None

-- what is asked of a column, by the word before it
abbrev pub aggregate_on : List ℕ → List (List ℕ) → Option (Aggregate × List (List ℕ))
aggregate_on word [] = None
aggregate_on word (column ∷ words) = before (aggregate_of word column) words

-- an aggregate
unfoldable pub aggregate_first : List (List ℕ) → Option (Aggregate × List (List ℕ))
aggregate_first (word ∷ words) = if bytes_eq word (codes "count") then Some (Count, words) else aggregate_on word words
aggregate_first [] = None

-- `get` and an aggregate
unfoldable pub get_first : List (List ℕ) → Option (Aggregate × List (List ℕ))
get_first (word ∷ words) = if bytes_eq word (codes "get") then aggregate_first words else None
get_first [] = None

-- what is read first and what is read from the words behind it; or nothing, and all words are left
abbrev pub led : {A : Type 0} → Option (A × List (List ℕ)) → (List (List ℕ) → List A × List (List ℕ)) → List (List ℕ)
    → List A × List (List ℕ)
led None more words = ([], words)
led (Some first) more words = let behind = more first.1 in (first.0 ∷ behind.0, behind.1)

-- what is read one behind the other, up to so many times, and the words that are left
abbrev pub many : {A : Type 0} → (List (List ℕ) → Option (A × List (List ℕ))) → ℕ → List (List ℕ) → List A × List (List ℕ)
many next zero words = ([], words)
many next (suc count) words = led (next words) (λ behind. many next count behind) words

-- the same, with another first one
abbrev pub series : {A : Type 0} → Option (A × List (List ℕ)) → (List (List ℕ) → Option (A × List (List ℕ))) → List (List ℕ)
    → List A × List (List ℕ)
series first next words = led first (λ behind. many next (length behind) behind) words

unfoldable pub conditions_of : List (List ℕ) → List Condition × List (List ℕ)
conditions_of words = series (condition_behind (codes "where") words) (condition_behind (codes "and")) words

unfoldable pub groups_of : List (List ℕ) → List Column × List (List ℕ)
groups_of words = series (by_first words) column_first words

unfoldable pub aggregates_of : List (List ℕ) → List Aggregate × List (List ℕ)
aggregates_of words = series (get_first words) aggregate_first words

-- the name behind `query`
unfoldable pub query_of : List (List ℕ) → Option (List ℕ × List (List ℕ))
query_of (word ∷ name ∷ words) = if bytes_eq word (codes "query") && is_name name then Some (name, words) else None
query_of other = None

-- a join's column and the name of its table
abbrev pub join_read : Option ℕ → List ℕ → List (List ℕ) → List (List ℕ) → Option (ℕ × List ℕ) × List (List ℕ)
join_read None name words all = (None, all)
join_read (Some column) name words all = (Some (column, name), words)

-- the join, where there is one
unfoldable pub join_of : List (List ℕ) → Option (ℕ × List ℕ) × List (List ℕ)
join_of (word ∷ column ∷ name ∷ words) =
    if bytes_eq word (codes "join") && is_name name then join_read (below_of (2 ^ 8) column) name words (word ∷ column ∷ name ∷ words)
    else (None, word ∷ column ∷ name ∷ words)
join_of other = (None, other)

-- a join with the table of a name
abbrev pub join_on : ℕ → Result ℕ Reason → Result (Option Join) Reason
join_on column (Err reason) = Err reason
join_on column (Ok table) = Ok (Some (record { column = column; table = table }))

abbrev pub join_table : List (List ℕ × List Kind) → Option (ℕ × List ℕ) → Result (Option Join) Reason
join_table schema None = Ok None
join_table schema (Some join) = join_on join.0 (table_of schema join.1)

-- a plan on its tables
abbrev pub plan_on : Result ℕ Reason → Result (Option Join) Reason → List Condition → List Column → List Aggregate → Result Plan Reason
plan_on (Err reason) join conditions groups aggregates = Err reason
plan_on (Ok table) (Err reason) conditions groups aggregates = Err reason
plan_on (Ok table) (Ok join) conditions groups aggregates =
    Ok (record { table = table; join = join; conditions = conditions; groups = groups; aggregates = aggregates })

-- a plan, where something is asked and no words are left
abbrev pub whole : Result ℕ Reason → Result (Option Join) Reason → List Condition → List Column → List Aggregate → List (List ℕ)
    → Result Plan Reason
whole table join conditions groups [] words = Err BadWords
whole table join conditions groups (first ∷ more) (word ∷ words) = Err BadWords
whole table join conditions groups (first ∷ more) [] = plan_on table join conditions groups (first ∷ more)

-- the plan behind the name of its table
abbrev pub plan_behind : List (List ℕ × List Kind) → Option (List ℕ × List (List ℕ)) → Result Plan Reason
plan_behind schema None = Err BadWords
plan_behind schema (Some query) =
    let join = join_of query.1 in
    let conditions = conditions_of join.1 in
    let groups = groups_of conditions.1 in
    let aggregates = aggregates_of groups.1 in
    whole (table_of schema query.0) (join_table schema join.0) conditions.0 groups.0 aggregates.0 aggregates.1

unfoldable pub plan_of : List (List ℕ × List Kind) → List (List ℕ) → Result Plan Reason
plan_of schema words = plan_behind schema (query_of words)

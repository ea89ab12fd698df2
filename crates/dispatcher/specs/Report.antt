-- The report of a batch.
use Rattle.std.specs.Prelude.{ℕ, List, map}
use Rattle.rows.specs.Tables.{Tables}
use Rattle.queries.specs.declared.plan.Plan.{Plan}
use Rattle.queries.specs.Answers.{plain_answer}
use Rattle.queries.specs.Report.{report_text}

-- the report of queries on the tables at this version: their plain answers, in the order in which the queries were opened
abbrev pub report_of : Tables → ℕ → List Plan → List ℕ
report_of tables version plans = report_text version (map (plain_answer tables) plans)

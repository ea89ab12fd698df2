-- Plans with their answers on worked tables.
use Rattle.std.specs.Prelude.{◌≡◌, ℕ, ℤ, pos, negsuc, List, [], ◌∷◌, Option, None, Some}
use Rattle.rows.specs.declared.kind.Kind.TheVariants as column_kinds
use Rattle.rows.specs.declared.value.Value.{Value}
use Rattle.rows.specs.declared.value.Value.TheVariants.{Int, Octets}
use Rattle.rows.specs.Tables.{Tables, Rows}
use Rattle.queries.specs.declared.aggregate.Aggregate.{Aggregate}
use Rattle.queries.specs.declared.aggregate.Aggregate.TheVariants.{Count, Sum, Min, Max}
use Rattle.queries.specs.declared.column.Column.{Column}
use Rattle.queries.specs.declared.column.Column.TheVariants.{Own, Joined}
use Rattle.queries.specs.declared.condition.Condition.{Condition}
use Rattle.queries.specs.declared.condition.Comparison.TheVariants as compared
use Rattle.queries.specs.declared.field.Field.{Field}
use Rattle.queries.specs.declared.field.Field.TheVariants.{Stored, Number, Absent}
use Rattle.queries.specs.declared.plan.Join.{Join}
use Rattle.queries.specs.declared.plan.Plan.{Plan}
use Rattle.queries.specs.Answers.{plain_answer}

-- ---- the tables: accounts, each with a site and an amount, and sites with two letters

abbrev row : ℕ → ℤ → ℤ → ℕ × List Value
row id site amount = (id, Int site ∷ Int amount ∷ [])

abbrev two : ℕ → ℕ → Value
two a b = Octets (a ∷ b ∷ [])

abbrev pub account_rows : Rows
account_rows =
    row 10 (pos 1) (pos 100) ∷ row 11 (pos 2) (pos 50) ∷ row 12 (pos 1) (negsuc 29) ∷ row 13 (pos 9) (pos 7)
    ∷ row 14 (negsuc 0) (pos 8) ∷ []

abbrev pub sites : Rows
sites = (1, two 0x4e 0x45 ∷ []) ∷ (2, two 0x53 0x57 ∷ []) ∷ []

abbrev tables_with : Rows → Tables
tables_with rows =
    record { kinds = column_kinds.Int ∷ column_kinds.Int ∷ []; rows = rows }
    ∷ record { kinds = column_kinds.Octets 2 ∷ []; rows = sites } ∷ []

abbrev pub worked_tables : Tables
worked_tables = tables_with account_rows

abbrev pub empty_accounts : Tables
empty_accounts = tables_with []

-- two accounts at the greatest number
abbrev pub great_accounts : Tables
great_accounts = tables_with (row 1 (pos 9223372036854775807) (pos 0) ∷ row 2 (pos 9223372036854775807) (pos 0) ∷ [])

-- ---- plans over accounts, joined with their sites or not

abbrev plan_of : Option Join → List Condition → List Column → List Aggregate → Plan
plan_of join conditions groups aggregates =
    record { table = 0; join = join; conditions = conditions; groups = groups; aggregates = aggregates }

abbrev at_site : Option Join
at_site = Some (record { column = 0; table = 1 })

-- by site: how many, the sum and the greatest of the amounts
abbrev pub by_site : Plan
by_site = plan_of at_site [] (Joined 0 ∷ []) (Count ∷ Sum (Own 1) ∷ Max (Own 1) ∷ [])

-- the amounts above 0 that are not at the second site
abbrev pub above_elsewhere : Plan
above_elsewhere =
    plan_of at_site
    (record { column = Own 1; comparison = compared.Greater; value = Int (pos 0) }
    ∷ record { column = Joined 0; comparison = compared.NotEqual; value = two 0x53 0x57 } ∷ [])
    [] (Count ∷ Sum (Own 1) ∷ [])

-- accounts by number of site, above 100: there are none
abbrev pub far_sites : Plan
far_sites = plan_of None (record { column = Own 0; comparison = compared.Greater; value = Int (pos 100) } ∷ []) (Own 0 ∷ []) (Count ∷ [])

-- by number of site, whether the site is there or not
abbrev pub by_number : Plan
by_number = plan_of None [] (Own 0 ∷ []) (Count ∷ Sum (Own 1) ∷ Min (Own 1) ∷ Max (Own 1) ∷ [])

-- the least letters of a site from `P` on
abbrev pub late_letters : Plan
late_letters =
    plan_of at_site (record { column = Joined 0; comparison = compared.AtLeast; value = two 0x50 0 } ∷ []) [] (Min (Joined 0) ∷ [])

-- the number, the sum and the least of the first column
abbrev pub first_column : Plan
first_column = plan_of None [] [] (Count ∷ Sum (Own 0) ∷ Min (Own 0) ∷ [])

-- ---- their answers

abbrev n : ℤ → Field
n number = Number number

abbrev v : ℤ → Field
v number = Stored (Int number)

-- the worked plans with their answers
pub record WorkedAnswers : Type 0 where
  pub site : plain_answer worked_tables by_site ≡
      (Stored (two 0x4e 0x45) ∷ n (pos 2) ∷ n (pos 70) ∷ v (pos 100) ∷ [])
      ∷ (Stored (two 0x53 0x57) ∷ n (pos 1) ∷ n (pos 50) ∷ v (pos 50) ∷ []) ∷ []
  pub elsewhere : plain_answer worked_tables above_elsewhere ≡ (n (pos 1) ∷ n (pos 100) ∷ []) ∷ []
  pub far : plain_answer worked_tables far_sites ≡ []
  pub number : plain_answer worked_tables by_number ≡
      (v (negsuc 0) ∷ n (pos 1) ∷ n (pos 8) ∷ v (pos 8) ∷ v (pos 8) ∷ [])
      ∷ (v (pos 1) ∷ n (pos 2) ∷ n (pos 70) ∷ v (negsuc 29) ∷ v (pos 100) ∷ [])
      ∷ (v (pos 2) ∷ n (pos 1) ∷ n (pos 50) ∷ v (pos 50) ∷ v (pos 50) ∷ [])
      ∷ (v (pos 9) ∷ n (pos 1) ∷ n (pos 7) ∷ v (pos 7) ∷ v (pos 7) ∷ []) ∷ []
  pub letters : plain_answer worked_tables late_letters ≡ (Stored (two 0x53 0x57) ∷ []) ∷ []
  pub great : plain_answer great_accounts first_column ≡
      (n (pos 2) ∷ n (pos 18446744073709551614) ∷ v (pos 9223372036854775807) ∷ []) ∷ []
  pub empty : plain_answer empty_accounts first_column ≡ (n (pos 0) ∷ n (pos 0) ∷ Absent ∷ []) ∷ []

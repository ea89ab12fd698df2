-- A row that a plan looks at has the columns that the plan names.
use Rattle.std.proofs.Common.{◌≡◌, ℕ, true, List, [], Option, None, Some, Result, Ok, Err, OnOk, slice_get, refl, sym, ap, ◌∙◌}
use Rattle.std.specs.Option.{option_map, option_and_then}
use Rattle.std.proofs.lemmas.Option.{same_Some}
use Rattle.rows.specs.declared.kind.Kind.{Kind}
use Rattle.rows.specs.declared.value.Value.{Value}
use Rattle.rows.specs.Values.{are_of_kinds}
use Rattle.rows.specs.Tables.{Tables, Rows, shape_in, rows_of, row_at, RowsAreOfKinds}
use Rattle.queries.specs.declared.plan.Join.{Join}
use Rattle.queries.specs.declared.plan.Plan.{Plan}
use Rattle.queries.specs.Answers.{JoinedRow, id_of, joined_with}
use Rattle.queries.specs.Checking.{joined_kinds}
use Rattle.queries.specs.Laws.{Fits}
use Rattle.plans.specs.Inner.Kept.{HasJoin, HasColumns}
use Rattle.plans.proofs.Columns.{join-there, has-columns, row-of-kinds}

-- a row with another one
abbrev both : List Value → List Value → JoinedRow
both own other = record { own = own; joined = other }

-- the row that a row is joined with
record IsPartner (rows : Rows) (own : List Value) (row : JoinedRow) : Type 0 where
  id : ℕ
  other : List Value
  there : row_at rows id ≡ Some other
  is : both own other ≡ row

partner-at : (rows : Rows) (own : List Value) (row : JoinedRow) (id : ℕ) (other : Option (List Value)) → row_at rows id ≡ other
    → option_map (both own) other ≡ Some row → IsPartner rows own row
partner-at rows own row id None there e = absurd (cc)
partner-at rows own row id (Some other) there e = record { id = id; other = other; there = there; is = same_Some (both own other) row e }

partner : (rows : Rows) (own : List Value) (row : JoinedRow) (id : Option ℕ)
    → option_map (both own) (option_and_then (row_at rows) id) ≡ Some row → IsPartner rows own row
partner rows own row None e = absurd (cc)
partner rows own row (Some id) e = partner-at rows own row id (row_at rows id) refl e

-- the values of a joined row
record HasValues (own : List Value) (joined : List Kind) (row : JoinedRow) : Type 0 where
  own_values : row.own ≡ own
  joined_values : are_of_kinds row.joined joined ≡ true

joined-values : (tables : Tables) (join : Option Join) (own : List Value) (joined : List Kind) (row : JoinedRow) → RowsAreOfKinds tables
    → joined_kinds (shape_in tables) join ≡ Some joined → joined_with tables join own ≡ Some row → HasValues own joined row
joined-values tables None own joined row are kinds e =
    let same : both own [] ≡ row = same_Some (both own []) row e in
    let none : [] ≡ joined = same_Some [] joined kinds in
    record {
      own_values = ap (λ row. row.own) (sym same);
      joined_values = λ i. are_of_kinds (sym same i).joined (sym none i);
    }
joined-values tables (Some join) own joined row are kinds e =
    let found = partner (rows_of tables join.table) own row (option_and_then id_of (slice_get own join.column)) e in
    record {
      own_values = ap (λ row. row.own) (sym found.is);
      joined_values =
          ap (λ row. are_of_kinds row.joined joined) (sym found.is)
          ∙ row-of-kinds tables join.table found.id joined found.other are kinds found.there;
    }

module _ (tables : Tables) (plan : Plan) (id : ℕ) (own : List Value) (fit : Fits (shape_in tables) plan)
    (are : RowsAreOfKinds tables) (there : row_at (rows_of tables plan.table) id ≡ Some own) where
  of_own : are_of_kinds own fit.own ≡ true
  of_own = row-of-kinds tables plan.table id fit.own own are fit.own_there there

  -- the column by which it is joined is there
  pub row-has-join : HasJoin plan.join own
  row-has-join = join-there fit.own own plan.join of_own fit.join

  -- and so are all columns of the joined row
  pub row-has-columns : (row : JoinedRow) → joined_with tables plan.join own ≡ Some row → HasColumns plan row
  row-has-columns row e =
      let values = joined-values tables plan.join own fit.joined row are fit.joined_there e in
      has-columns (shape_in tables) plan row fit
      (record {
        own_values = ap (λ own. are_of_kinds own fit.own) values.own_values ∙ of_own;
        joined_values = values.joined_values;
      })

-- what follows of two clauses on a call that ended well
pub both-ok : {T E P Q R : Type 0} (result : Result T E) → (P → Q → R) → OnOk result P → OnOk result Q → OnOk result R
both-ok (Ok value) both p q = both p q
both-ok (Err fault) both p q = tt

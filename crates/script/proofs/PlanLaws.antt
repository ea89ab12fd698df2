-- The words of a plan, and the plan that words give.
use Rattle.std.proofs.Common.{◌≡◌, ℕ, zero, suc, ◌<◌, List, [], ◌∷◌, ◌++◌, map, length, None, Some, Result, Ok, Err, Option}
use Rattle.std.proofs.Common.{true, refl, sym, ap, ◌∙◌, arith, codes, decimal, append-nil}
use Rattle.std.specs.List.{AllByRecursion, flat_map}
use Rattle.std.proofs.lemmas.List.Concat.{flat_map_single}
use Rattle.std.proofs.lemmas.List.Elements.{All-cons}
use Rattle.rows.specs.declared.kind.Kind.{Kind}
use Rattle.queries.specs.declared.aggregate.Aggregate.{Aggregate}
use Rattle.queries.specs.declared.aggregate.Aggregate.TheVariants.{Count, Sum, Min, Max}
use Rattle.queries.specs.declared.column.Column.{Column}
use Rattle.queries.specs.declared.column.Column.TheVariants.{Own, Joined}
use Rattle.queries.specs.declared.condition.Comparison.{Comparison}
use Rattle.queries.specs.declared.condition.Comparison.TheVariants.{Equal, NotEqual, Less, AtMost, Greater, AtLeast}
use Rattle.queries.specs.declared.condition.Condition.{Condition}
use Rattle.queries.specs.declared.plan.Join.{Join}
use Rattle.queries.specs.declared.plan.Plan.{Plan}
use Rattle.script.specs.declared.faults.Reason.{Reason}
use Rattle.script.specs.declared.faults.Reason.TheVariants.{NotText, BadSetting, UnknownEvent, BadWords, NoTable}
use Rattle.script.specs.Text.{is_name}
use Rattle.script.specs.Tables.{name_in, table_called, AreNamed, AreFound, IsOneMissing}
use Rattle.script.specs.PlanText.{column_text, comparison_text, condition_words, and_words, aggregate_words}
use Rattle.script.specs.PlanText.{join_words, where_words, by_words}
use Rattle.script.specs.PlanText.{plan_words, plan_tables, joined_table, HasPlanWords, HasJoinWords}
use Rattle.script.specs.PlanText.{HasConditionWords, HasColumnWord, HasAggregateWords}
use Rattle.script.specs.Inner.WordReading.{or_no_table, table_of}
use Rattle.script.specs.Inner.PlanReading.{condition_behind, column_first, by_first, aggregate_first, get_first}
use Rattle.script.specs.Inner.PlanReading.{conditions_of, groups_of, aggregates_of, query_of, join_of, join_on, join_table}
use Rattle.script.specs.Inner.PlanReading.{plan_on, whole, plan_behind, plan_of}
use Rattle.script.proofs.Plain.{IsNoSpace, plain-by-test, decimal-plain, name-plain}
use Rattle.script.proofs.WordSpaces.{value-plain}
use Rattle.script.proofs.WordSplitting.{IsPlain}
use Rattle.script.proofs.Tables.{named_so, table_of-name}
use Rattle.script.proofs.PlanParts.{condition-some, condition-read, condition-other, column_words, column-some, column-read, column-other}
use Rattle.script.proofs.PlanParts.{by-some, by-read, by-other, aggregate-some, aggregate-read, aggregate-other}
use Rattle.script.proofs.PlanParts.{get-some, get-read, get-other}
use Rattle.script.proofs.PlanParts.{query-some, query-read, named_join_words, IsNamedJoin, join-sound, join-read, join-other}
use Rattle.script.proofs.PlanSeries.{led_words, series-sound, series-complete}

-- what an answer on these words says of them
abbrev pub IsPlanSound : List (List ℕ × List Kind) → List (List ℕ) → Result Plan Reason → Type 0
IsPlanSound schema words (Ok plan) =
    HasPlanWords plan × AreNamed (name_in schema) (plan_tables plan) × AreFound schema (plan_tables plan)
    × (plan_words (name_in schema) plan ≡ words)
IsPlanSound schema words (Err NotText) = ⊥
IsPlanSound schema words (Err BadSetting) = ⊥
IsPlanSound schema words (Err UnknownEvent) = ⊥
IsPlanSound schema words (Err BadWords) = Unit {0}
IsPlanSound schema words (Err NoTable) =
    (naming : ℕ → List ℕ) × (plan : Plan) × HasPlanWords plan × AreNamed naming (plan_tables plan)
    × (plan_words naming plan ≡ words) × IsOneMissing schema naming (plan_tables plan)

-- conditions, columns and aggregates as they are read are those that are written
where-led : (conditions : List Condition)
    → led_words (λ (it : Condition). codes "where" ∷ condition_words it) and_words conditions ≡ where_words conditions
where-led [] = refl
where-led (condition ∷ conditions) = refl

by-led : (columns : List Column) → led_words (λ (it : Column). codes "by" ∷ column_words it) column_words columns ≡ by_words columns
by-led [] = refl
by-led (column ∷ columns) =
    ap (λ (rest : List (List ℕ)). codes "by" ∷ column_words column ++ rest) (flat_map_single _ columns)

abbrev get_words : List Aggregate → List (List ℕ)
get_words aggregates = led_words (λ (it : Aggregate). codes "get" ∷ aggregate_words it) aggregate_words aggregates

conditions-sound : (words : List (List ℕ)) → AllByRecursion HasConditionWords (conditions_of words).0
    × (where_words (conditions_of words).0 ++ (conditions_of words).1 ≡ words)
unfolding conditions_of
conditions-sound words =
    let p = series-sound HasConditionWords (λ (it : Condition). codes "where" ∷ condition_words it) and_words
    (condition_behind (codes "where") words) (condition_behind (codes "and")) words
    (condition-some (codes "where") words) (condition-some (codes "and")) in
    (p.0, ap (λ (first : List (List ℕ)). first ++ (conditions_of words).1) (sym (where-led (conditions_of words).0)) ∙ p.1)

groups-sound : (words : List (List ℕ)) → AllByRecursion HasColumnWord (groups_of words).0
    × (by_words (groups_of words).0 ++ (groups_of words).1 ≡ words)
unfolding groups_of
groups-sound words =
    let p = series-sound HasColumnWord (λ (it : Column). codes "by" ∷ column_words it) column_words
    (by_first words) column_first words (by-some words) column-some in
    (p.0, ap (λ (first : List (List ℕ)). first ++ (groups_of words).1) (sym (by-led (groups_of words).0)) ∙ p.1)

aggregates-sound : (words : List (List ℕ)) → AllByRecursion HasAggregateWords (aggregates_of words).0
    × (get_words (aggregates_of words).0 ++ (aggregates_of words).1 ≡ words)
unfolding aggregates_of
aggregates-sound words =
    series-sound HasAggregateWords (λ (it : Aggregate). codes "get" ∷ aggregate_words it) aggregate_words
    (get_first words) aggregate_first words (get-some words) aggregate-some

-- the words behind the name of the table
abbrev behind_name : List (List ℕ) → List Condition → List Column → List Aggregate → List (List ℕ)
behind_name join conditions groups aggregates =
    join ++ (where_words conditions ++ (by_words groups ++ (codes "get" ∷ flat_map aggregate_words aggregates)))

-- a table of one of two names
abbrev two_names : List ℕ → List ℕ → ℕ → List ℕ
two_names own other zero = own
two_names own other (suc table) = other

-- a plan of parts that were read, on tables that are there or not
on-sound : (schema : List (List ℕ × List Kind)) (words : List (List ℕ)) (name : List ℕ) (join : Option (ℕ × List ℕ))
    (conditions : List Condition) (groups : List Column) (aggregates : List Aggregate) → is_name name ≡ true → IsNamedJoin join
    → AllByRecursion HasConditionWords conditions → AllByRecursion HasColumnWord groups → 0 < length aggregates
    → AllByRecursion HasAggregateWords aggregates
    → codes "query" ∷ name ∷ behind_name (named_join_words join) conditions groups aggregates ≡ words
    → IsPlanSound schema words (plan_on (table_of schema name) (join_table schema join) conditions groups aggregates)
on-sound schema words name None cs gs qs named joined c g some a is =
    rw (table_of-name schema name named) (by (table_called schema name) refl)
  where
    by : (found : Option ℕ) → table_called schema name ≡ found
        → IsPlanSound schema words (plan_on (or_no_table found) (Ok None) cs gs qs)
    by None e = (
      (λ table. name),
      record { table = 0; join = None; conditions = cs; groups = gs; aggregates = qs },
      record { join = tt; conditions = c; groups = g; some = some; aggregates = a },
      (named, tt),
      is,
      (0, (0, omega arith, refl), e),
    )
    by (Some table) e =
        let same : name_in schema table ≡ name = named_so schema name table e in (
          record { join = tt; conditions = c; groups = g; some = some; aggregates = a },
          (ap is_name same ∙ named, tt),
          (ap (table_called schema) same ∙ e, tt),
          ap (λ (it : List ℕ). codes "query" ∷ it ∷ behind_name [] cs gs qs) same ∙ is,
        )
on-sound schema words name (Some join) cs gs qs named joined c g some a is =
    rw (table_of-name schema name named) (rw (table_of-name schema join.1 joined.1)
    (by (table_called schema name) refl (table_called schema join.1) refl))
  where
    by : (found : Option ℕ) → table_called schema name ≡ found → (other : Option ℕ) → table_called schema join.1 ≡ other
        → IsPlanSound schema words (plan_on (or_no_table found) (join_on join.0 (or_no_table other)) cs gs qs)
    by None e other f = (
      two_names name join.1,
      record { table = 0; join = Some (record { column = join.0; table = 1 }); conditions = cs; groups = gs; aggregates = qs },
      record { join = joined.0; conditions = c; groups = g; some = some; aggregates = a },
      (named, (joined.1, tt)),
      is,
      (0, (0, omega arith, refl), e),
    )
    by (Some table) e None f = (
      two_names name join.1,
      record { table = 0; join = Some (record { column = join.0; table = 1 }); conditions = cs; groups = gs; aggregates = qs },
      record { join = joined.0; conditions = c; groups = g; some = some; aggregates = a },
      (named, (joined.1, tt)),
      is,
      (1, (1, omega arith, refl), f),
    )
    by (Some table) e (Some other) f =
        let same : name_in schema table ≡ name = named_so schema name table e in
        let also : name_in schema other ≡ join.1 = named_so schema join.1 other f in (
          record { join = joined.0; conditions = c; groups = g; some = some; aggregates = a },
          (ap is_name same ∙ named, (ap is_name also ∙ joined.1, tt)),
          (ap (table_called schema) same ∙ e, (ap (table_called schema) also ∙ f, tt)),
          ap (λ (it : List ℕ).
              codes "query" ∷ it ∷ behind_name (codes "join" ∷ decimal join.0 ∷ name_in schema other ∷ []) cs gs qs) same
              ∙ ap (λ (it : List ℕ). codes "query" ∷ name ∷ behind_name (codes "join" ∷ decimal join.0 ∷ it ∷ []) cs gs qs) also
              ∙ is,
        )

-- words that are left make no plan, nor do words that ask for nothing
whole-sound : (schema : List (List ℕ × List Kind)) (words : List (List ℕ)) (name : List ℕ) (join : Option (ℕ × List ℕ))
    (conditions : List Condition) (groups : List Column) (aggregates : List Aggregate) (left : List (List ℕ)) → is_name name ≡ true
    → IsNamedJoin join → AllByRecursion HasConditionWords conditions → AllByRecursion HasColumnWord groups
    → AllByRecursion HasAggregateWords aggregates
    → codes "query" ∷ name ∷ (named_join_words join ++ (where_words conditions ++ (by_words groups ++ (get_words aggregates ++ left))))
    ≡ words
    → IsPlanSound schema words (whole (table_of schema name) (join_table schema join) conditions groups aggregates left)
whole-sound schema words name join cs gs [] left named joined c g a is = tt
whole-sound schema words name join cs gs (first ∷ more) (word ∷ left) named joined c g a is = tt
whole-sound schema words name join cs gs (first ∷ more) [] named joined c g a is =
    on-sound schema words name join cs gs (first ∷ more) named joined c g (omega arith) a
    (ap (λ (last : List (List ℕ)). codes "query" ∷ name ∷ (named_join_words join ++ (where_words cs ++ (by_words gs ++ last))))
    (sym (append-nil (get_words (first ∷ more)))) ∙ is)

-- what is read is spelled so
pub plan-sound : (schema : List (List ℕ × List Kind)) (words : List (List ℕ)) → IsPlanSound schema words (plan_of schema words)
unfolding plan_of
plan-sound schema words = by (query_of words) refl
  where
    by : (found : Option (List ℕ × List (List ℕ))) → query_of words ≡ found → IsPlanSound schema words (plan_behind schema found)
    by None e = tt
    by (Some query) e =
        let q = query-some words query e in
        let join = join_of query.1 in
        let conditions = conditions_of join.1 in
        let groups = groups_of conditions.1 in
        let aggregates = aggregates_of groups.1 in
        let j = join-sound query.1 in
        let c = conditions-sound join.1 in
        let g = groups-sound conditions.1 in
        let a = aggregates-sound groups.1 in
        whole-sound schema words query.0 join.0 conditions.0 groups.0 aggregates.0 aggregates.1 q.0 j.0 c.0 g.0 a.0
        (ap (λ (rest : List (List ℕ)).
        codes "query" ∷ query.0 ∷ (named_join_words join.0 ++ (where_words conditions.0 ++ (by_words groups.0 ++ rest)))) a.1
        ∙ ap (λ (rest : List (List ℕ)). codes "query" ∷ query.0 ∷ (named_join_words join.0 ++ (where_words conditions.0 ++ rest))) g.1
        ∙ ap (λ (rest : List (List ℕ)). codes "query" ∷ query.0 ∷ (named_join_words join.0 ++ rest)) c.1
        ∙ ap (λ (rest : List (List ℕ)). codes "query" ∷ query.0 ∷ rest) j.1 ∙ q.1)

-- what conditions, columns and aggregates are written as is read
aggregates-read : (aggregates : List Aggregate) → 0 < length aggregates → AllByRecursion HasAggregateWords aggregates
    → aggregates_of (codes "get" ∷ flat_map aggregate_words aggregates) ≡ (aggregates, [])
unfolding aggregates_of
aggregates-read [] some good = absurd (omega arith)
aggregates-read (first ∷ more) some good =
    ap aggregates_of (sym (append-nil (get_words (first ∷ more))))
    ∙ series-complete HasAggregateWords (λ (it : Aggregate). codes "get" ∷ aggregate_words it) aggregate_words get_first aggregate_first
    aggregate-some-words get-read aggregate-read (first ∷ more) [] good get-other aggregate-other
  where
    aggregate-some-words : (aggregate : Aggregate) → 0 < length (aggregate_words aggregate)
    aggregate-some-words Count = omega arith
    aggregate-some-words (Sum column) = omega arith
    aggregate-some-words (Min column) = omega arith
    aggregate-some-words (Max column) = omega arith

groups-read : (groups : List Column) (words : List (List ℕ)) → AllByRecursion HasColumnWord groups
    → groups_of (by_words groups ++ (codes "get" ∷ words)) ≡ (groups, codes "get" ∷ words)
unfolding groups_of
groups-read groups words good =
    ap (λ (first : List (List ℕ)). groups_of (first ++ codes "get" ∷ words)) (sym (by-led groups))
    ∙ series-complete HasColumnWord (λ (it : Column). codes "by" ∷ column_words it) column_words by_first column_first
    (λ column. omega arith) by-read column-read groups (codes "get" ∷ words) good (by-other words) (column-other words)

-- behind conditions stands `by` or `get`
conditions-read : (conditions : List Condition) (groups : List Column) (words : List (List ℕ))
    → AllByRecursion HasConditionWords conditions
    → conditions_of (where_words conditions ++ (by_words groups ++ (codes "get" ∷ words)))
    ≡ (conditions, by_words groups ++ (codes "get" ∷ words))
unfolding conditions_of
conditions-read conditions groups words good =
    ap (λ (first : List (List ℕ)). conditions_of (first ++ (by_words groups ++ (codes "get" ∷ words)))) (sym (where-led conditions))
    ∙ series-complete HasConditionWords (λ (it : Condition). codes "where" ∷ condition_words it) and_words
    (condition_behind (codes "where")) (condition_behind (codes "and")) (λ condition. omega arith)
    (condition-read (codes "where")) (condition-read (codes "and")) conditions (by_words groups ++ (codes "get" ∷ words)) good
    (other-where groups) (other-and groups)
  where
    other-where : (groups : List Column) → condition_behind (codes "where") (by_words groups ++ (codes "get" ∷ words)) ≡ None
    other-where [] = condition-other (codes "where") (codes "get") words refl
    other-where (column ∷ columns) =
        condition-other (codes "where") (codes "by") (map column_text (column ∷ columns) ++ (codes "get" ∷ words)) refl

    other-and : (groups : List Column) → condition_behind (codes "and") (by_words groups ++ (codes "get" ∷ words)) ≡ None
    other-and [] = condition-other (codes "and") (codes "get") words refl
    other-and (column ∷ columns) =
        condition-other (codes "and") (codes "by") (map column_text (column ∷ columns) ++ (codes "get" ∷ words)) refl

-- a join with the name of its table
abbrev pub named_join : (ℕ → List ℕ) → Option Join → Option (ℕ × List ℕ)
named_join naming None = None
named_join naming (Some join) = Some (join.column, naming join.table)

-- without a join stands `where`, `by` or `get`
no-join : (conditions : List Condition) (groups : List Column) (words : List (List ℕ))
    → join_of (where_words conditions ++ (by_words groups ++ (codes "get" ∷ words)))
    ≡ (None, where_words conditions ++ (by_words groups ++ (codes "get" ∷ words)))
no-join [] [] words = join-other (codes "get") words refl
no-join [] (column ∷ columns) words = join-other (codes "by") _ refl
no-join (condition ∷ conditions) groups words = join-other (codes "where") _ refl

joins-read : (naming : ℕ → List ℕ) (table : ℕ) (join : Option Join) (conditions : List Condition) (groups : List Column)
    (words : List (List ℕ)) → HasJoinWords join → AreNamed naming (joined_table join)
    → join_of (join_words naming join ++ (where_words conditions ++ (by_words groups ++ (codes "get" ∷ words))))
    ≡ (named_join naming join, where_words conditions ++ (by_words groups ++ (codes "get" ∷ words)))
joins-read naming table None conditions groups words form named = no-join conditions groups words
joins-read naming table (Some join) conditions groups words form named =
    join-read join.column (naming join.table) (where_words conditions ++ (by_words groups ++ (codes "get" ∷ words))) form named.0

whole-read : (table : Result ℕ Reason) (join : Result (Option Join) Reason) (conditions : List Condition) (groups : List Column)
    (aggregates : List Aggregate) → 0 < length aggregates
    → whole table join conditions groups aggregates [] ≡ plan_on table join conditions groups aggregates
whole-read table join conditions groups [] some = absurd (omega arith)
whole-read table join conditions groups (first ∷ more) some = refl

-- the words of a plan give it, on the tables of these names
pub plan-words-read : (schema : List (List ℕ × List Kind)) (naming : ℕ → List ℕ) (plan : Plan) → HasPlanWords plan
    → AreNamed naming (plan_tables plan)
    → plan_of schema (plan_words naming plan)
    ≡ plan_on (table_of schema (naming plan.table)) (join_table schema (named_join naming plan.join)) plan.conditions plan.groups
    plan.aggregates
unfolding plan_of
plan-words-read schema naming plan form named =
    let last = flat_map aggregate_words plan.aggregates in
    let behind = where_words plan.conditions ++ (by_words plan.groups ++ (codes "get" ∷ last)) in
    rw (query-read (naming plan.table) (join_words naming plan.join ++ behind) named.0)
    (rw (joins-read naming plan.table plan.join plan.conditions plan.groups last form.join named.1)
    (rw (conditions-read plan.conditions plan.groups last form.conditions)
    (rw (groups-read plan.groups last form.groups)
    (rw (aggregates-read plan.aggregates form.some form.aggregates)
    (whole-read (table_of schema (naming plan.table)) (join_table schema (named_join naming plan.join)) plan.conditions plan.groups
    plan.aggregates form.some)))))

-- what is spelled so is read
pub plan-read : (schema : List (List ℕ × List Kind)) (plan : Plan) → HasPlanWords plan
    → AreNamed (name_in schema) (plan_tables plan) → AreFound schema (plan_tables plan)
    → plan_of schema (plan_words (name_in schema) plan) ≡ Ok plan
plan-read schema plan form named found =
    plan-words-read schema (name_in schema) plan form named
    ∙ rw (found_so plan.table named.0 found.0) (rw (by plan.join named.1 found.1) refl)
  where
    found_so : (table : ℕ) → is_name (name_in schema table) ≡ true → table_called schema (name_in schema table) ≡ Some table
        → table_of schema (name_in schema table) ≡ Ok table
    found_so table is at = table_of-name schema (name_in schema table) is ∙ ap or_no_table at

    by : (join : Option Join) → AreNamed (name_in schema) (joined_table join) → AreFound schema (joined_table join)
        → join_table schema (named_join (name_in schema) join) ≡ Ok join
    by None is at = refl
    by (Some join) is at =
        rw (table_of-name schema (name_in schema join.table) is.0) (rw at.0 refl)

-- and no words of a plan are bad, whichever tables there are
pub plan-not-bad : (schema : List (List ℕ × List Kind)) (naming : ℕ → List ℕ) (plan : Plan) → HasPlanWords plan
    → AreNamed naming (plan_tables plan) → plan_of schema (plan_words naming plan) ≡ Err BadWords → ⊥
plan-not-bad schema naming plan form named bad =
    first (table_of schema (naming plan.table)) (good (naming plan.table) named.0) (join_table schema (named_join naming plan.join))
    (joins plan.join named.1) (sym (plan-words-read schema naming plan form named) ∙ bad)
  where
    good : (name : List ℕ) → is_name name ≡ true → table_of schema name ≡ Err BadWords → ⊥
    good name is h = by (table_called schema name) (sym (table_of-name schema name is) ∙ h)
      where
        by : (found : Option ℕ) → or_no_table found ≡ Err BadWords → ⊥
        by None k = cc
        by (Some table) k = cc

    joins : (join : Option Join) → AreNamed naming (joined_table join) → join_table schema (named_join naming join) ≡ Err BadWords → ⊥
    joins None is h = cc
    joins (Some join) is h = by (table_called schema (naming join.table)) (ap (join_on join.column)
        (sym (table_of-name schema (naming join.table) is.0)) ∙ h)
      where
        by : (found : Option ℕ) → join_on join.column (or_no_table found) ≡ Err BadWords → ⊥
        by None k = cc
        by (Some table) k = cc

    first : (table : Result ℕ Reason) → (table ≡ Err BadWords → ⊥) → (join : Result (Option Join) Reason) → (join ≡ Err BadWords → ⊥)
        → plan_on table join plan.conditions plan.groups plan.aggregates ≡ Err BadWords → ⊥
    first (Err reason) not join nor h = not (let same : reason ≡ BadWords = cc in ap (λ (it : Reason). Err it) same)
    first (Ok table) not (Err reason) nor h = nor (let same : reason ≡ BadWords = cc in ap (λ (it : Reason). Err it) same)
    first (Ok table) not (Ok join) nor h = cc

all-append : {A : Type 0} (P : A → Type 0) (front back : List A) → AllByRecursion P front → AllByRecursion P back
    → AllByRecursion P (front ++ back)
all-append P [] back are rest = rest
all-append P (item ∷ items) back are rest = (are.0, all-append P items back are.1 rest)

all-flat : {A : Type 0} (Good : A → Type 0) (spell : A → List (List ℕ)) → ((part : A) → Good part → AllByRecursion IsPlain (spell part))
    → (items : List A) → AllByRecursion Good items → AllByRecursion IsPlain (flat_map spell items)
all-flat Good spell plain [] good = tt
all-flat Good spell plain (item ∷ items) good =
    all-append IsPlain (spell item) (flat_map spell items) (plain item good.0) (all-flat Good spell plain items good.1)

column-plain : (column : Column) → HasColumnWord column → IsPlain (column_text column)
column-plain (Own column) small = decimal-plain column (omega arith)
column-plain (Joined column) small = All-cons IsNoSpace 106 (decimal column) refl (decimal-plain column (omega arith))

comparison-plain : (comparison : Comparison) → IsPlain (comparison_text comparison)
comparison-plain Equal = plain-by-test (codes "=") refl
comparison-plain NotEqual = plain-by-test (codes "!=") refl
comparison-plain Less = plain-by-test (codes "<") refl
comparison-plain AtMost = plain-by-test (codes "<=") refl
comparison-plain Greater = plain-by-test (codes ">") refl
comparison-plain AtLeast = plain-by-test (codes ">=") refl

condition-plain : (condition : Condition) → HasConditionWords condition → AllByRecursion IsPlain (condition_words condition)
condition-plain condition good =
    (column-plain condition.column good.0, (comparison-plain condition.comparison, (value-plain condition.value good.1, tt)))

where-plain : (conditions : List Condition) → AllByRecursion HasConditionWords conditions
    → AllByRecursion IsPlain (where_words conditions)
where-plain [] good = tt
where-plain (condition ∷ conditions) good =
    let others = all-flat HasConditionWords and_words
    (λ it is. (plain-by-test (codes "and") refl, condition-plain it is)) conditions good.1 in (
      plain-by-test (codes "where") refl,
      all-append IsPlain (condition_words condition) (flat_map and_words conditions) (condition-plain condition good.0) others,
    )

by-plain : (columns : List Column) → AllByRecursion HasColumnWord columns → AllByRecursion IsPlain (by_words columns)
by-plain [] good = tt
by-plain (column ∷ columns) good = (plain-by-test (codes "by") refl, all (column ∷ columns) good)
  where
    all : (columns : List Column) → AllByRecursion HasColumnWord columns → AllByRecursion IsPlain (map column_text columns)
    all [] good = tt
    all (column ∷ columns) good = (column-plain column good.0, all columns good.1)

aggregate-plain : (aggregate : Aggregate) → HasAggregateWords aggregate → AllByRecursion IsPlain (aggregate_words aggregate)
aggregate-plain Count good = (plain-by-test (codes "count") refl, tt)
aggregate-plain (Sum column) good = (plain-by-test (codes "sum") refl, (column-plain column good, tt))
aggregate-plain (Min column) good = (plain-by-test (codes "min") refl, (column-plain column good, tt))
aggregate-plain (Max column) good = (plain-by-test (codes "max") refl, (column-plain column good, tt))

join-plain : (naming : ℕ → List ℕ) (join : Option Join) → HasJoinWords join → AreNamed naming (joined_table join)
    → AllByRecursion IsPlain (join_words naming join)
join-plain naming None form named = tt
join-plain naming (Some join) form named = (
  plain-by-test (codes "join") refl,
  (decimal-plain join.column (omega arith), (name-plain (naming join.table) named.0, tt)),
)

-- words of a plan have no space
pub plan-plain : (naming : ℕ → List ℕ) (plan : Plan) → HasPlanWords plan → AreNamed naming (plan_tables plan)
    → AllByRecursion IsPlain (plan_words naming plan)
plan-plain naming plan form named =
    let aggregates = all-flat HasAggregateWords aggregate_words aggregate-plain plan.aggregates form.aggregates in
    let last = codes "get" ∷ flat_map aggregate_words plan.aggregates in (
      plain-by-test (codes "query") refl,
      (
        name-plain (naming plan.table) named.0,
        all-append IsPlain (join_words naming plan.join) (where_words plan.conditions ++ (by_words plan.groups ++ last))
            (join-plain naming plan.join form.join named.1)
            (all-append IsPlain (where_words plan.conditions) (by_words plan.groups ++ last) (where-plain plan.conditions form.conditions)
            (all-append IsPlain (by_words plan.groups) last (by-plain plan.groups form.groups)
            (plain-by-test (codes "get") refl, aggregates))),
      ),
    )

-- a plan has words
pub plan-some : (naming : ℕ → List ℕ) (plan : Plan) → 0 < length (plan_words naming plan)
plan-some naming plan = omega arith

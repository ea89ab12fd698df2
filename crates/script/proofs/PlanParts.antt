-- The parts of a plan, and the words that are them.
use Rattle.std.proofs.Common.{◌≡◌, ℕ, ◌<◌, ◌^◌, List, [], ◌∷◌, ◌++◌, drop, Bool, true, false, cond, Option, None, Some}
use Rattle.std.proofs.Common.{refl, sym, ap, ◌∙◌, subst, arith, slice_index, ◌==◌, ◌&&◌, codes, decimal, inr}
use Rattle.std.specs.Str.{bytes_eq}
use Rattle.rows.specs.declared.value.Value.{Value}
use Rattle.queries.specs.declared.aggregate.Aggregate.{Aggregate}
use Rattle.queries.specs.declared.aggregate.Aggregate.TheVariants.{Count, Sum, Min, Max}
use Rattle.queries.specs.declared.column.Column.{Column}
use Rattle.queries.specs.declared.column.Column.TheVariants.{Own, Joined}
use Rattle.queries.specs.declared.condition.Comparison.{Comparison}
use Rattle.queries.specs.declared.condition.Comparison.TheVariants.{Equal, NotEqual, Less, AtMost, Greater, AtLeast}
use Rattle.queries.specs.declared.condition.Condition.{Condition}
use Rattle.script.specs.Text.{is_name}
use Rattle.script.specs.PlanText.{column_text, comparison_text, condition_words, aggregate_words}
use Rattle.script.specs.PlanText.{HasColumnWord, HasConditionWords, HasAggregateWords}
use Rattle.script.specs.Inner.WordReading.{made, below_of, value_of}
use Rattle.script.specs.Inner.PlanReading.{column_of, comparison_of, compared, before, condition_behind, column_first, by_first}
use Rattle.script.specs.Inner.PlanReading.{aggregate_of, aggregate_on, aggregate_first, get_first, query_of, join_read, join_of}
use Rattle.script.proofs.Numbers.{below_of-some, below_of-decimal, first-is, first-decimal, words_eq, words_same}
use Rattle.script.proofs.Hex.{made-some}
use Rattle.script.proofs.Values.{value_of-text, value_of-some}

-- columns
pub column_of-text : (column : Column) → HasColumnWord column → column_of (column_text column) ≡ Some column
unfolding column_of
column_of-text (Own column) small =
    rw (first-decimal 106 column (omega arith) (inr (omega arith))) (rw (below_of-decimal (2 ^ 8) column small (omega arith)) refl)
column_of-text (Joined column) small = rw (below_of-decimal (2 ^ 8) column small (omega arith)) refl

pub column_of-some : (word : List ℕ) (column : Column) → column_of word ≡ Some column
    → HasColumnWord column × (column_text column ≡ word)
unfolding column_of
column_of-some word column h = by (slice_index word 0 == 106) refl h
  where
    by : (j : Bool) → (slice_index word 0 == 106) ≡ j
        → cond j (made Joined (below_of (2 ^ 8) (drop 1 word))) (made Own (below_of (2 ^ 8) word)) ≡ Some column
        → HasColumnWord column × (column_text column ≡ word)
    by true e k =
        let p = made-some Joined (below_of (2 ^ 8) (drop 1 word)) column k in
        let s = below_of-some (2 ^ 8) (drop 1 word) p.0 p.1 in
        let P : Column → Type 0 = λ c. HasColumnWord c × (column_text c ≡ word) in
        subst P p.2 (s.0, ap (λ (rest : List ℕ). 106 ∷ rest) s.1 ∙ first-is 106 word (omega arith) e)
    by false e k =
        let p = made-some Own (below_of (2 ^ 8) word) column k in
        let P : Column → Type 0 = λ c. HasColumnWord c × (column_text c ≡ word) in
        subst P p.2 (below_of-some (2 ^ 8) word p.0 p.1)

-- `get` is no column
pub column_of-get : column_of (codes "get") ≡ None
column_of-get = by (column_of (codes "get")) refl
  where
    differs : true ≡ false → ⊥
    differs h = cc

    text : (column : Column) → HasColumnWord column → column_text column ≡ codes "get" → ⊥
    text (Own column) small e =
        let other = first-decimal 103 column (omega arith) (inr (omega arith)) in
        let same : (slice_index (decimal column) 0 == 103) ≡ true = ap (λ (word : List ℕ). slice_index word 0 == 103) e in
        differs (sym same ∙ other)
    text (Joined column) small e = differs (sym (ap (λ (word : List ℕ). slice_index word 0 == 103) e))

    by : (found : Option Column) → column_of (codes "get") ≡ found → found ≡ None
    by None e = refl
    by (Some column) e =
        let p = column_of-some (codes "get") column e in
        absurd (text column p.0 p.1)

-- comparisons
pub comparison_of-text : (comparison : Comparison) → comparison_of (comparison_text comparison) ≡ Some comparison
unfolding comparison_of
comparison_of-text Equal = refl
comparison_of-text NotEqual = refl
comparison_of-text Less = refl
comparison_of-text AtMost = refl
comparison_of-text Greater = refl
comparison_of-text AtLeast = refl

-- a word that was compared with others
asked : {A : Type 0} (word name : List ℕ) (is : Bool) (given : A) (other : Option A) (found : A) (P : A → Type 0)
    → bytes_eq word name ≡ is → (name ≡ word → P given) → (other ≡ Some found → P found) → cond is (Some given) other ≡ Some found → P found
asked word name true given other found P e ours rest h =
    let same : given ≡ found = cc in
    subst P same (ours (sym (words_same word name e)))
asked word name false given other found P e ours rest h = rest h

pub comparison_of-some : (word : List ℕ) (comparison : Comparison) → comparison_of word ≡ Some comparison
    → comparison_text comparison ≡ word
unfolding comparison_of
comparison_of-some word found h =
    let P : Comparison → Type 0 = λ it. comparison_text it ≡ word in
    asked word (codes "=") (bytes_eq word (codes "=")) Equal _ found P refl (λ e. e) (λ h.
    asked word (codes "!=") (bytes_eq word (codes "!=")) NotEqual _ found P refl (λ e. e) (λ h.
    asked word (codes "<") (bytes_eq word (codes "<")) Less _ found P refl (λ e. e) (λ h.
    asked word (codes "<=") (bytes_eq word (codes "<=")) AtMost _ found P refl (λ e. e) (λ h.
    asked word (codes ">") (bytes_eq word (codes ">")) Greater _ found P refl (λ e. e) (λ h.
    asked word (codes ">=") (bytes_eq word (codes ">=")) AtLeast None found P refl (λ e. e) (λ h. absurd (cc)) h) h) h) h) h) h

-- what was read, and the words behind it
before-some : {A : Type 0} (part : Option A) (words : List (List ℕ)) (found : A × List (List ℕ)) → before part words ≡ Some found
    → (part ≡ Some found.0) × (words ≡ found.1)
before-some None words found h = absurd (cc)
before-some {A} (Some part) words found h =
    let same : (part, words) ≡ found = cc in
    (ap (λ (it : A × List (List ℕ)). Some it.0) same, ap (λ (it : A × List (List ℕ)). it.1) same)

-- conditions
compared-some : (column : Option Column) (comparison : Option Comparison) (value : Option Value) (condition : Condition)
    → compared column comparison value ≡ Some condition
    → (column ≡ Some condition.column) × (comparison ≡ Some condition.comparison) × (value ≡ Some condition.value)
compared-some None comparison value condition h = absurd (cc)
compared-some (Some column) None value condition h = absurd (cc)
compared-some (Some column) (Some comparison) None condition h = absurd (cc)
compared-some (Some column) (Some comparison) (Some value) condition h =
    let given : Condition = record { column = column; comparison = comparison; value = value } in
    let same : given ≡ condition = cc in (
      ap (λ (it : Condition). Some it.column) same,
      ap (λ (it : Condition). Some it.comparison) same,
      ap (λ (it : Condition). Some it.value) same,
    )

pub condition-some : (opening : List ℕ) (words : List (List ℕ)) (found : Condition × List (List ℕ))
    → condition_behind opening words ≡ Some found
    → HasConditionWords found.0 × ((opening ∷ condition_words found.0) ++ found.1 ≡ words)
unfolding condition_behind
condition-some opening [] found h = absurd (cc)
condition-some opening (a ∷ []) found h = absurd (cc)
condition-some opening (a ∷ b ∷ []) found h = absurd (cc)
condition-some opening (a ∷ b ∷ c ∷ []) found h = absurd (cc)
condition-some opening (word ∷ column ∷ comparison ∷ value ∷ words) found h = by (bytes_eq word opening) refl h
  where
    by : (is : Bool) → bytes_eq word opening ≡ is
        → cond is (before (compared (column_of column) (comparison_of comparison) (value_of value)) words) None ≡ Some found
        → HasConditionWords found.0
        × ((opening ∷ condition_words found.0) ++ found.1 ≡ word ∷ column ∷ comparison ∷ value ∷ words)
    by false e k = absurd (cc)
    by true e k =
        let p = before-some (compared (column_of column) (comparison_of comparison) (value_of value)) words found k in
        let q = compared-some (column_of column) (comparison_of comparison) (value_of value) found.0 p.0 in
        let first = column_of-some column found.0.column q.0 in
        let second = comparison_of-some comparison found.0.comparison q.1 in
        let third = value_of-some value found.0.value q.2 in
        ((first.0, third.0), rw (words_same word opening e) (rw first.1 (rw second (rw third.1 (rw (sym p.1) refl)))))

pub condition-read : (opening : List ℕ) (condition : Condition) (words : List (List ℕ)) → HasConditionWords condition
    → condition_behind opening ((opening ∷ condition_words condition) ++ words) ≡ Some (condition, words)
unfolding condition_behind
condition-read opening condition words good =
    rw (words_eq opening) (rw (column_of-text condition.column good.0) (rw (comparison_of-text condition.comparison)
    (rw (value_of-text condition.value good.1) refl)))

pub condition-other : (opening word : List ℕ) (words : List (List ℕ)) → bytes_eq word opening ≡ false
    → condition_behind opening (word ∷ words) ≡ None
unfolding condition_behind
condition-other opening word [] other = refl
condition-other opening word (a ∷ []) other = refl
condition-other opening word (a ∷ b ∷ []) other = refl
condition-other opening word (a ∷ b ∷ c ∷ words) other = rw other refl

-- columns by which rows are grouped
abbrev pub column_words : Column → List (List ℕ)
column_words column = column_text column ∷ []

pub column-some : (words : List (List ℕ)) (found : Column × List (List ℕ)) → column_first words ≡ Some found
    → HasColumnWord found.0 × (column_words found.0 ++ found.1 ≡ words)
unfolding column_first
column-some [] found h = absurd (cc)
column-some (word ∷ words) found h =
    let p = before-some (column_of word) words found h in
    let q = column_of-some word found.0 p.0 in
    (q.0, rw q.1 (rw (sym p.1) refl))

pub column-read : (column : Column) (words : List (List ℕ)) → HasColumnWord column
    → column_first (column_words column ++ words) ≡ Some (column, words)
unfolding column_first
column-read column words good = rw (column_of-text column good) refl

pub column-other : (words : List (List ℕ)) → column_first (codes "get" ∷ words) ≡ None
unfolding column_first
column-other words = rw column_of-get refl

pub by-some : (words : List (List ℕ)) (found : Column × List (List ℕ)) → by_first words ≡ Some found
    → HasColumnWord found.0 × ((codes "by" ∷ column_words found.0) ++ found.1 ≡ words)
unfolding by_first
by-some [] found h = absurd (cc)
by-some (word ∷ words) found h = by (bytes_eq word (codes "by")) refl h
  where
    by : (is : Bool) → bytes_eq word (codes "by") ≡ is → cond is (column_first words) None ≡ Some found
        → HasColumnWord found.0 × ((codes "by" ∷ column_words found.0) ++ found.1 ≡ word ∷ words)
    by false e k = absurd (cc)
    by true e k =
        let p = column-some words found k in
        (p.0, rw (words_same word (codes "by") e) (ap (λ (rest : List (List ℕ)). codes "by" ∷ rest) p.1))

pub by-read : (column : Column) (words : List (List ℕ)) → HasColumnWord column
    → by_first ((codes "by" ∷ column_words column) ++ words) ≡ Some (column, words)
unfolding by_first
by-read column words good = column-read column words good

pub by-other : (words : List (List ℕ)) → by_first (codes "get" ∷ words) ≡ None
unfolding by_first
by-other words = refl

-- aggregates
aggregate_of-some : (word column : List ℕ) (found : Aggregate) → aggregate_of word column ≡ Some found
    → HasAggregateWords found × (aggregate_words found ≡ word ∷ column ∷ [])
unfolding aggregate_of
aggregate_of-some word column found h =
    by (bytes_eq word (codes "sum")) refl (bytes_eq word (codes "min")) refl (bytes_eq word (codes "max")) refl h
  where
    by : (s : Bool) → bytes_eq word (codes "sum") ≡ s → (m : Bool) → bytes_eq word (codes "min") ≡ m
        → (x : Bool) → bytes_eq word (codes "max") ≡ x
        → cond s (made Sum (column_of column)) (cond m (made Min (column_of column)) (cond x (made Max (column_of column)) None))
        ≡ Some found
        → HasAggregateWords found × (aggregate_words found ≡ word ∷ column ∷ [])
    by true e m f x g k =
        let p = made-some Sum (column_of column) found k in
        let q = column_of-some column p.0 p.1 in
        let Q : Aggregate → Type 0 = λ it. HasAggregateWords it × (aggregate_words it ≡ word ∷ column ∷ []) in
        subst Q p.2 (q.0, rw (words_same word (codes "sum") e) (rw q.1 refl))
    by false e true f x g k =
        let p = made-some Min (column_of column) found k in
        let q = column_of-some column p.0 p.1 in
        let Q : Aggregate → Type 0 = λ it. HasAggregateWords it × (aggregate_words it ≡ word ∷ column ∷ []) in
        subst Q p.2 (q.0, rw (words_same word (codes "min") f) (rw q.1 refl))
    by false e false f true g k =
        let p = made-some Max (column_of column) found k in
        let q = column_of-some column p.0 p.1 in
        let Q : Aggregate → Type 0 = λ it. HasAggregateWords it × (aggregate_words it ≡ word ∷ column ∷ []) in
        subst Q p.2 (q.0, rw (words_same word (codes "max") g) (rw q.1 refl))
    by false e false f false g k = absurd (cc)

on-some : (word : List ℕ) (words : List (List ℕ)) (found : Aggregate × List (List ℕ)) → aggregate_on word words ≡ Some found
    → HasAggregateWords found.0 × (aggregate_words found.0 ++ found.1 ≡ word ∷ words)
on-some word [] found h = absurd (cc)
on-some word (column ∷ words) found h =
    let p = before-some (aggregate_of word column) words found h in
    let q = aggregate_of-some word column found.0 p.0 in
    (q.0, rw q.1 (rw (sym p.1) refl))

pub aggregate-some : (words : List (List ℕ)) (found : Aggregate × List (List ℕ)) → aggregate_first words ≡ Some found
    → HasAggregateWords found.0 × (aggregate_words found.0 ++ found.1 ≡ words)
unfolding aggregate_first
aggregate-some [] found h = absurd (cc)
aggregate-some (word ∷ words) found h = by (bytes_eq word (codes "count")) refl h
  where
    by : (is : Bool) → bytes_eq word (codes "count") ≡ is → cond is (Some (Count, words)) (aggregate_on word words) ≡ Some found
        → HasAggregateWords found.0 × (aggregate_words found.0 ++ found.1 ≡ word ∷ words)
    by true e k =
        let same : (Count, words) ≡ found = cc in
        let P : Aggregate × List (List ℕ) → Type 0 = λ it. HasAggregateWords it.0 × (aggregate_words it.0 ++ it.1 ≡ word ∷ words) in
        subst P same (tt, rw (words_same word (codes "count") e) refl)
    by false e k = on-some word words found k

pub aggregate-read : (aggregate : Aggregate) (words : List (List ℕ)) → HasAggregateWords aggregate
    → aggregate_first (aggregate_words aggregate ++ words) ≡ Some (aggregate, words)
unfolding aggregate_first aggregate_of
aggregate-read Count words good = refl
aggregate-read (Sum column) words good = rw (column_of-text column good) refl
aggregate-read (Min column) words good = rw (column_of-text column good) refl
aggregate-read (Max column) words good = rw (column_of-text column good) refl

pub aggregate-other : aggregate_first [] ≡ None
unfolding aggregate_first
aggregate-other = refl

pub get-some : (words : List (List ℕ)) (found : Aggregate × List (List ℕ)) → get_first words ≡ Some found
    → HasAggregateWords found.0 × ((codes "get" ∷ aggregate_words found.0) ++ found.1 ≡ words)
unfolding get_first
get-some [] found h = absurd (cc)
get-some (word ∷ words) found h = by (bytes_eq word (codes "get")) refl h
  where
    by : (is : Bool) → bytes_eq word (codes "get") ≡ is → cond is (aggregate_first words) None ≡ Some found
        → HasAggregateWords found.0 × ((codes "get" ∷ aggregate_words found.0) ++ found.1 ≡ word ∷ words)
    by false e k = absurd (cc)
    by true e k =
        let p = aggregate-some words found k in
        (p.0, rw (words_same word (codes "get") e) (ap (λ (rest : List (List ℕ)). codes "get" ∷ rest) p.1))

pub get-other : get_first [] ≡ None
unfolding get_first
get-other = refl

pub get-read : (aggregate : Aggregate) (words : List (List ℕ)) → HasAggregateWords aggregate
    → get_first ((codes "get" ∷ aggregate_words aggregate) ++ words) ≡ Some (aggregate, words)
unfolding get_first
get-read aggregate words good = aggregate-read aggregate words good

-- the name of the table
pub query-some : (words : List (List ℕ)) (found : List ℕ × List (List ℕ)) → query_of words ≡ Some found
    → (is_name found.0 ≡ true) × (codes "query" ∷ found.0 ∷ found.1 ≡ words)
unfolding query_of
query-some [] found h = absurd (cc)
query-some (word ∷ []) found h = absurd (cc)
query-some (word ∷ name ∷ words) found h = by (bytes_eq word (codes "query")) refl (is_name name) refl h
  where
    by : (is : Bool) → bytes_eq word (codes "query") ≡ is → (named : Bool) → is_name name ≡ named
        → cond (is && named) (Some (name, words)) None ≡ Some found
        → (is_name found.0 ≡ true) × (codes "query" ∷ found.0 ∷ found.1 ≡ word ∷ name ∷ words)
    by false e named f k = absurd (cc)
    by true e false f k = absurd (cc)
    by true e true f k =
        let same : (name, words) ≡ found = cc in
        let P : List ℕ × List (List ℕ) → Type 0 = λ it. (is_name it.0 ≡ true) × (codes "query" ∷ it.0 ∷ it.1 ≡ word ∷ name ∷ words) in
        subst P same (f, rw (words_same word (codes "query") e) refl)

pub query-read : (name : List ℕ) (words : List (List ℕ)) → is_name name ≡ true
    → query_of (codes "query" ∷ name ∷ words) ≡ Some (name, words)
unfolding query_of
query-read name words named = rw named refl

-- a join's column and the name of its table
abbrev pub named_join_words : Option (ℕ × List ℕ) → List (List ℕ)
named_join_words None = []
named_join_words (Some join) = codes "join" ∷ decimal join.0 ∷ join.1 ∷ []

abbrev pub IsNamedJoin : Option (ℕ × List ℕ) → Type 0
IsNamedJoin None = Unit {0}
IsNamedJoin (Some join) = (join.0 < 2 ^ 8) × (is_name join.1 ≡ true)

pub join-sound : (words : List (List ℕ))
    → IsNamedJoin (join_of words).0 × (named_join_words (join_of words).0 ++ (join_of words).1 ≡ words)
unfolding join_of
join-sound [] = (tt, refl)
join-sound (a ∷ []) = (tt, refl)
join-sound (a ∷ b ∷ []) = (tt, refl)
join-sound (word ∷ column ∷ name ∷ words) =
    by (bytes_eq word (codes "join")) refl (is_name name) refl (below_of (2 ^ 8) column) refl
  where
    by : (is : Bool) → bytes_eq word (codes "join") ≡ is → (named : Bool) → is_name name ≡ named
        → (found : Option ℕ) → below_of (2 ^ 8) column ≡ found
        → (let it = cond (is && named) (join_read found name words (word ∷ column ∷ name ∷ words)) (None, word ∷ column ∷ name ∷ words) in
        IsNamedJoin it.0 × (named_join_words it.0 ++ it.1 ≡ word ∷ column ∷ name ∷ words))
    by false e named f found g = (tt, refl)
    by true e false f found g = (tt, refl)
    by true e true f None g = (tt, refl)
    by true e true f (Some number) g =
        let p = below_of-some (2 ^ 8) column number g in
        ((p.0, f), rw (words_same word (codes "join") e) (rw p.1 refl))

pub join-read : (column : ℕ) (name : List ℕ) (words : List (List ℕ)) → column < 2 ^ 8 → is_name name ≡ true
    → join_of (codes "join" ∷ decimal column ∷ name ∷ words) ≡ (Some (column, name), words)
unfolding join_of
join-read column name words small named = rw named (rw (below_of-decimal (2 ^ 8) column small (omega arith)) refl)

pub join-other : (word : List ℕ) (words : List (List ℕ)) → bytes_eq word (codes "join") ≡ false
    → join_of (word ∷ words) ≡ (None, word ∷ words)
unfolding join_of
join-other word [] other = refl
join-other word (a ∷ []) other = refl
join-other word (a ∷ b ∷ words) other = rw other refl

-- A table that was read, behind those of a schema.
use Rattle.std.proofs.Common.{◌<◌, ◌+◌, ◌≡◌, ℕ, List, [], ◌∷◌, ◌++◌, take, length, slice_get, None, Some, Result, Ok, Err, MatchResult}
use Rattle.std.proofs.Common.{sym, ap, ◌∙◌}
use Rattle.std.proofs.lemmas.List.{take_more}
use Rattle.std.proofs.lemmas.Option.{slice_get_within, slice_get-get_or, get_or_from_slice_get}
use Rattle.rows.specs.declared.kind.Kind.{Kind}
use Rattle.rows.specs.SchemaFaults.{schema_fault}
use Rattle.script.specs.declared.faults.LineFault.{LineFault}
use Rattle.script.specs.declared.faults.LineFault.TheVariants.{Because, Memory}
use Rattle.script.specs.Inner.LineFaults.{OrMemory}
use Rattle.script.specs.Inner.SettingWords.{IsTable, IsTableMore, IsNoTableMore, IsSchemaOf, IsNoSchemaOf}
use Rattle.script.proofs.TableLines.{words-same}

-- the schema with the table behind those before, or why there is none
pub table-made : (before : List (List ℕ × List Kind)) (words : List (List ℕ)) (table : List ℕ × List Kind)
    (tables : List (List ℕ × List Kind)) (made : Result (List (List ℕ × List Kind)) LineFault) → IsTable words table
    → tables ≡ before ++ table ∷ [] → MatchResult made (IsSchemaOf tables) (OrMemory (IsNoSchemaOf tables))
    → MatchResult made (IsTableMore before words) (OrMemory (IsNoTableMore before words))
table-made before words table tables (Ok schema) is behind made =
    record { table = table; is_table = is; behind = made.0 ∙ behind; sound = ap schema_fault made.0 ∙ made.1 }
table-made before words table tables (Err (Because reason)) is behind made = (
  made.0,
  λ after more.
      let same : more.table ≡ table = words-same more.table table more.is_table.good is.good (sym more.is_table.written ∙ is.written) in
      let all : after ≡ tables = more.behind ∙ ap (λ last. before ++ last ∷ []) same ∙ sym behind in
      made.1 (ap schema_fault (sym all) ∙ more.sound),
)
table-made before words table tables (Err Memory) is behind made = tt

-- the next of a list's first elements
pub take-next : {X : Type 0} (xs : List X) (count : ℕ) (x : X) → Some x ≡ slice_get xs count
    → take (count + 1) xs ≡ take count xs ++ x ∷ []
take-next xs count x is =
    take_more xs count x (slice_get_within xs count x (sym is))
    ∙ ap (λ y. take count xs ++ y ∷ []) (get_or_from_slice_get xs count x x (sym is))

pub not-past : {X : Type 0} (xs : List X) (count : ℕ) (d : X) → count < length xs → None ≡ slice_get xs count → ⊥
not-past xs count d within is = let here = slice_get-get_or xs count d within in cc

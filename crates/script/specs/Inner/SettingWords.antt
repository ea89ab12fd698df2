-- What the words of a line set.
use Rattle.std.specs.Prelude.{◌≡◌, ◌≢◌, ℕ, List, [], ◌∷◌, ◌++◌, map, true, None, codes}
use Rattle.std.specs.Borrow.{Bor}
use Rattle.std.specs.List.{list_all}
use Rattle.rows.specs.declared.kind.Kind.{Kind}
use Rattle.rows.specs.SchemaFaults.{schema_fault}
use Rattle.rows.specs.Shape.{is_good}
use Rattle.script.specs.declared.faults.Reason.{Reason}
use Rattle.script.specs.declared.faults.Reason.TheVariants.{BadSetting}
use Rattle.script.specs.declared.settings.Settings.{Settings}
use Rattle.script.specs.Text.{is_name}
use Rattle.script.specs.Settings.{IsNoSetting, kind_text}

-- words that are lent
abbrev pub texts : List (Bor (List ℕ)) → List (List ℕ)
texts words = map (λ word. word.now) words

-- the words of columns of these kinds
pub record AreKinds (words : List (List ℕ)) (kinds : List Kind) : Type 0 where
  pub good : list_all is_good kinds ≡ true
  pub written : words ≡ map kind_text kinds

abbrev pub AreNoKinds : List (List ℕ) → Reason → Type 0
AreNoKinds words reason = (reason ≡ BadSetting) × ((kinds : List Kind) → ¬ AreKinds words kinds)

-- the words of a table's line
abbrev pub table_words : List ℕ × List Kind → List (List ℕ)
table_words table = codes "table" ∷ table.0 ∷ map kind_text table.1

pub record IsTable (words : List (List ℕ)) (table : List ℕ × List Kind) : Type 0 where
  pub named : is_name table.0 ≡ true
  pub good : list_all is_good table.1 ≡ true
  pub written : words ≡ table_words table

abbrev pub IsNoTable : List (List ℕ) → Reason → Type 0
IsNoTable words reason = (reason ≡ BadSetting) × ((table : List ℕ × List Kind) → ¬ IsTable words table)

-- the words set a table, and it stands behind those before
pub record IsTableMore (before : List (List ℕ × List Kind)) (words : List (List ℕ)) (after : List (List ℕ × List Kind)) : Type 0 where
  pub table : List ℕ × List Kind
  pub is_table : IsTable words table
  pub behind : after ≡ before ++ table ∷ []
  pub sound : schema_fault after ≡ None

abbrev pub IsNoTableMore : List (List ℕ × List Kind) → List (List ℕ) → Reason → Type 0
IsNoTableMore before words reason =
    (reason ≡ BadSetting) × ((after : List (List ℕ × List Kind)) → ¬ IsTableMore before words after)

-- a schema is that of these tables
abbrev pub IsSchemaOf : List (List ℕ × List Kind) → List (List ℕ × List Kind) → Type 0
IsSchemaOf tables schema = (schema ≡ tables) × (schema_fault tables ≡ None)

abbrev pub IsNoSchemaOf : List (List ℕ × List Kind) → Reason → Type 0
IsNoSchemaOf tables reason = (reason ≡ BadSetting) × (schema_fault tables ≢ None)

-- why a line does not go on with these settings
abbrev pub IsSettingFault : Settings → List ℕ → Reason → Type 0
IsSettingFault settings line reason = (reason ≡ BadSetting) × IsNoSetting settings line

-- The lines of settings: the workers, the replicas, and then each table.
use Rattle.std.specs.Prelude.{◌≡◌, ℕ, ◌<◌, ◌≤◌, List, [], ◌∷◌, ◌++◌, map, Bool, true, false, None, codes, decimal}
use Rattle.std.specs.List.{list_all}
use Rattle.rows.specs.declared.kind.Kind.{Kind}
use Rattle.rows.specs.declared.kind.Kind.TheVariants.{Int, Octets}
use Rattle.rows.specs.Limits.{workers_max, replicas_max}
use Rattle.rows.specs.SchemaFaults.{schema_fault}
use Rattle.rows.specs.Text.{words_text}
use Rattle.script.specs.declared.setup.Setup.{Setup}
use Rattle.script.specs.declared.settings.Settings.{Settings}
use Rattle.script.specs.declared.settings.Settings.TheVariants.{Nothing, Workers, Replicas, Ready}
use Rattle.script.specs.Text.{is_name}

-- how many workers, or replicas, a script may set: one at least
abbrev pub IsCount : ℕ → ℕ → Type 0
IsCount limit count = (0 < count) × (count ≤ limit)

-- a column's kind: `int`, or `bytes` and its width
abbrev pub kind_text : Kind → List ℕ
kind_text Int = codes "int"
kind_text (Octets width) = codes "bytes" ++ decimal width

-- the lines of the number of workers, and of replicas
abbrev pub workers_line : ℕ → List ℕ
workers_line count = words_text (codes "workers" ∷ decimal count ∷ [])

abbrev pub replicas_line : ℕ → List ℕ
replicas_line count = words_text (codes "replicas" ∷ decimal count ∷ [])

-- a table: its name, and the kinds of its columns
abbrev pub table_line : List ℕ × List Kind → List ℕ
table_line table = words_text (codes "table" ∷ table.0 ∷ map kind_text table.1)

-- the lines of a setup
abbrev pub setup_lines : Setup → List (List ℕ)
setup_lines setup = workers_line setup.workers ∷ replicas_line setup.replicas ∷ map table_line setup.schema

-- a setup that a script can have: at least one table, of which each has a name's form, and which are a schema
pub record IsSetup (setup : Setup) : Type 0 where
  pub workers : IsCount workers_max setup.workers
  pub replicas : IsCount replicas_max setup.replicas
  pub names : list_all (λ table. is_name table.0) setup.schema ≡ true
  pub tables : schema_fault setup.schema ≡ None

-- the lines of settings so far
abbrev pub settings_lines : Settings → List (List ℕ)
settings_lines Nothing = []
settings_lines (Workers workers) = workers_line workers ∷ []
settings_lines (Replicas workers replicas) = workers_line workers ∷ replicas_line replicas ∷ []
settings_lines (Ready setup) = setup_lines setup

-- settings that a script can begin with
abbrev pub AreSettings : Settings → Type 0
AreSettings Nothing = Unit {0}
AreSettings (Workers workers) = IsCount workers_max workers
AreSettings (Replicas workers replicas) = IsCount workers_max workers × IsCount replicas_max replicas
AreSettings (Ready setup) = IsSetup setup

-- whether a table is set, so that nothing is missing
abbrev pub is_ready : Settings → Bool
is_ready (Ready setup) = true
is_ready other = false

-- these settings have one line more than those
abbrev pub IsNextSetting : Settings → List ℕ → Settings → Type 0
IsNextSetting settings line next = AreSettings next × (settings_lines next ≡ settings_lines settings ++ line ∷ [])

-- a line is none that goes on with these settings
abbrev pub IsNoSetting : Settings → List ℕ → Type 0
IsNoSetting settings line = (next : Settings) → ¬ IsNextSetting settings line next

-- The state of a primary: the durable list of commits, the pending list after it, whether its journal has failed, and its base. Its
-- schema (the names and kinds of its tables) and its number of workers never change.
use Rattle.std.specs.Prelude.{ℕ, List, [], Bool, false, Option, None, Some}
use Rattle.rows.specs.declared.commit.Commit.{Commit}
use Rattle.rows.specs.declared.kind.Kind.{Kind}
use Rattle.journal.specs.declared.form.Form.{Form}

-- a primary: its schema, its number of workers, its durable and its pending commits, whether its journal has failed, and its base: the
-- frames of the first so many commits are not kept, but the tables after them, in pieces
pub record Primary : Type 0 where
  pub schema : List (List ℕ × List Kind)
  pub workers : ℕ
  pub durable : List Commit
  pub pending : List Commit
  pub failed : Bool
  pub base : ℕ

-- a primary with its journal, which is not there while it is lent out for a write, and the form of the journal's text
pub record Core (J : Type 0) : Type 0 where
  pub primary : Primary
  pub journal : Option J
  pub form : Form

-- whether the journal is there and honest
abbrev pub is_honest_in : {J : Type 0} → (J → Bool) → Option J → Bool
is_honest_in is_honest None = false
is_honest_in is_honest (Some journal) = is_honest journal

-- the bytes that stand on it, if it is there
abbrev pub standing_in : {J : Type 0} → (J → List ℕ) → Option J → List ℕ
standing_in standing None = []
standing_in standing (Some journal) = standing journal

-- how many faults it has counted, if it is there
abbrev pub faults_in : {J : Type 0} → (J → ℕ) → Option J → ℕ
faults_in fault_count None = 0
faults_in fault_count (Some journal) = fault_count journal

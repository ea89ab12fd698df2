-- Only for proofs: a primary that runs, as a world holds it between two events: its journal is not lent out.
use Rattle.std.specs.Prelude.{◌≡◌, [], true, false, Option, None, Some, is_some}
use Rattle.rows.specs.Shape.{shape_of}
use Rattle.journal.specs.declared.form.Form.{Form}
use Rattle.journal.specs.State.{JournalState}
use Rattle.journal.specs.Text.{journal_text}
use Rattle.primary.specs.State.{Primary, Core}

-- a primary, its journal, and the form of the journal's text
pub record Running : Type 0 where
  pub primary : Primary
  pub journal : JournalState
  pub form : Form

-- the journal, where it is there
abbrev pub journal_in : Option JournalState → JournalState
journal_in None = record { bytes = []; room = 0 }
journal_in (Some journal) = journal

-- the primary with its journal as a core is seen
abbrev pub core_of : Running → Core JournalState
core_of running = record { primary = running.primary; journal = Some running.journal; form = running.form }

-- the journal is there, and has the text of what is durable unless it failed
pub record IsAtHome (core : Core JournalState) : Type 0 where
  pub there : is_some core.journal ≡ true
  pub written : core.primary.failed ≡ false
      → (journal_in core.journal).bytes ≡ journal_text core.form core.primary.workers (shape_of core.primary.schema) core.primary.durable

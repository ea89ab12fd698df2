-- What is read is spelled so, for all of the entries.
use Rattle.std.proofs.Common.{ap, ◌∙◌}
use Rattle.std.specs.List.{flat_map}
use Rattle.rows.specs.Spelling.{entry_spelling}
use Rattle.wire.proofs.lent_entries.LentEntries.as_bytes.Goals as goal

pub returns : goal.returns
returns c =
    (c.entries_are_read_as_spelled.ensures.found _ _ _ c.self.invariant.are_bytes c.self.invariant.filled).2
    ∙ ap (flat_map entry_spelling) c.self.view_is

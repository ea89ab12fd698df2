-- The count is how many entries the bytes spell.
use Rattle.std.proofs.Common.{sym, ap, ◌∙◌, length}
use Rattle.wire.proofs.lent_entries.LentEntries.len.Goals as goal

pub returns : goal.returns
returns c =
    sym (c.entries_are_read_as_spelled.ensures.found _ _ _ c.self.invariant.are_bytes c.self.invariant.filled).0
    ∙ ap length c.self.view_is

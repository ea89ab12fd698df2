-- The window is counted from the first seq that is missing from the base on.
use Rattle.std.proofs.Common.{sym, ap, ◌∙◌}
use Rattle.std.specs.Prelude.{nat_le}
use Rattle.intake.proofs.Holding.{ahead-of}
use Rattle.intake.proofs.known_seqs.KnownSeqs.is_ahead.Goals as goal

pub returns-else-seq-eq18446744073709551615 : goal.returns-else-seq-eq18446744073709551615
returns-else-seq-eq18446744073709551615 c =
    ap (nat_le 4096) c.saturating_sub.ensures
    ∙ ahead-of c.first_missing_from.result c.args.base c.args.seq c.args.self.now (sym c.first_missing_from.ensures)
    c.if-seq-eq18446744073709551615.false

-- The row begins where frames are kept on the base of the core.
use Rattle.shared.proofs.Bases.{all_three}
use Rattle.shared.proofs.line.Line.push_row.Goals as goal

pub returns-clause-ok : goal.returns-clause-ok
returns-clause-ok g c =
    all_three _ _ _ _ c.push_row.result (λ start is row base. (c.push_row.new.self.core.primary.base, base, is, row.1))
    c.push_row.ensures.start c.push_row.ensures.ok c.push_row.ensures.base

-- The commits up to a version are defined where all are.
use Rattle.std.proofs.Common.{ap}
use Rattle.std.specs.Result.{is_ok}
use Rattle.rows.specs.Shape.{shape_of}
use Rattle.mvcc.proofs.versions.Versions.keeps_defined.Goals as goal

pub returns-clause-first : goal.returns-clause-first
returns-clause-first c =
    let inside = c.self.inside in
    rw (← c.self.view_is)
    (λ version. ap is_ok (c.commits_are_defined_one_by_one.ensures.beginnings (shape_of inside.schema) inside.commits.items version
    c.self.invariant.legal))

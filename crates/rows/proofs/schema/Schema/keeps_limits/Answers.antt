-- The invariant: no fault stands.
use Rattle.std.proofs.Common.{subst}
use Rattle.rows.specs.Shape.{AreTables, shape_of}
use Rattle.rows.proofs.Schemas.{AreTables-schema}
use Rattle.rows.proofs.schema.Schema.keeps_limits.Goals as goal

pub returns : goal.returns
returns c = subst (λ tables. AreTables (shape_of tables)) c.self.view_is (AreTables-schema _ c.self.invariant)

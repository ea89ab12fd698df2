-- The row stands at its place.
use Rattle.std.proofs.Common.{◌≡◌, sym, ap, subst, ◌∙◌, slice_get, IfSome}
use Rattle.std.specs.Option.{option_map}
use Rattle.rows.specs.Tables.{Rows, Table, row_at}
use Rattle.apply.specs.Orders.{Rising}
use Rattle.apply.specs.Inner.Joins.{joined}
use Rattle.apply.proofs.Viewed.{found-values}
use Rattle.apply.proofs.piece.Piece.find.Goals as goal

pub returns-clause-values : goal.returns-clause-values
returns-clause-values c =
    let whole : joined c.as_slice.result.now ≡ c.args.self.now.rows =
    ap joined c.as_slice.ensures.value ∙ ap (λ (piece : Table). piece.rows) c.self.view_is in
    subst (λ (rows : Rows). IfSome c.find.result (λ at. option_map (λ found. found.1) (slice_get rows at) ≡ row_at rows c.args.row)) whole
    (found-values c.find.result c.args.row (joined c.as_slice.result.now)
    (subst (λ blocks. Rising (joined blocks)) (sym c.as_slice.ensures.value) c.self.invariant.blocks.rise)
    c.find.ensures.found c.find.ensures.place)

-- How the parts of a piece are seen, and what holds of them.
use Rattle.std.specs.Prelude.{◌≡◌, ◌≤◌, length}
use Rattle.rows.specs.Shape.{AreColumns}
use Rattle.rows.specs.Tables.{Table}
use Rattle.apply.specs.Inner.Joins.{joined, ends_from, AreBlocks}
use Rattle.apply.specs.Limits.{rows_max}
use Rattle.apply.specs.declared.piece.Piece.TheInside.{Inside}

abbrev pub table_of_piece : Inside → Table
table_of_piece p = record { kinds = p.kinds; rows = joined p.blocks.items }

pub record IsPiece (p : Inside) : Type 0 where
  pub columns : AreColumns p.kinds
  pub blocks : AreBlocks p.kinds p.blocks.items
  pub ends : p.ends.items ≡ ends_from 0 p.blocks.items
  pub few : length (joined p.blocks.items) ≤ rows_max

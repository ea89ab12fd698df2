-- What holds of the parts of a block: each column has a value for each identifier, and these rise.
use Rattle.std.specs.Prelude.{length}
use Rattle.apply.specs.Blocks.{rows_with}
use Rattle.apply.specs.Inner.Edits.{AllCells}
use Rattle.apply.specs.Orders.{Rising}
use Rattle.apply.specs.declared.block.Block.TheInside.{Inside}

pub record IsBlock (b : Inside) : Type 0 where
  pub cells : AllCells (length b.ids.items) b.columns.items
  pub rise : Rising (rows_with (length b.ids.items) b.ids.items b.columns.items)

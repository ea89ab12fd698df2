-- The rows of a piece, block by block.
use Rattle.std.proofs.Common.{◌≡◌, ℕ, ◌+◌, ◌≤◌, ◌==◌, ◌%◌, not, ◌++◌, length, take, refl, sym, ap, ◌∙◌, arith}
use Rattle.std.proofs.Math.Seq.{take-add}
use Rattle.std.proofs.lemmas.List.Filters.{length-filter_both}
use Rattle.rows.specs.Tables.{Rows, Tables, rows_of}
use Rattle.store.specs.Lent.{rows_in, rows_from}
use Rattle.plans.specs.declared.block.Block.{Block}
use Rattle.plans.specs.Inner.BlockRows.{rows_of_block, IsBlock, IsFrom}

-- a piece has no more rows than the table
pub piece-within : (rows : Rows) (pieces piece : ℕ) → length (rows_in rows pieces piece) ≤ length rows
piece-within rows pieces piece =
    let both =
    length-filter_both (λ row. row.0 % pieces == piece) (λ row. not (row.0 % pieces == piece)) (λ row. refl) rows in
    omega (arith, both)

module _ (tables : Tables) (block : Block) (table pieces piece from : ℕ) (is : IsBlock tables block)
    (place : IsFrom block table pieces piece from) where
  abbrev here : Rows
  here = rows_in (rows_of tables table) pieces piece

  -- its rows are the next ones of the piece
  next-rows : rows_from here from (length block.ids.now) ≡ rows_of_block tables block
  next-rows =
      sym (λ i. rows_from (rows_in (rows_of tables (place.0 i)) (place.2 i) (place.3 i)) (place.4 i) (length block.ids.now))
      ∙ is.lent place.1

  pub rows-behind : take from here ++ rows_of_block tables block ≡ take (from + length block.ids.now) here
  rows-behind = sym (ap (λ rows. take from here ++ rows) next-rows) ∙ sym (take-add from (length block.ids.now) here)

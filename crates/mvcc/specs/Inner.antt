-- Only for proofs: the chains of rows, the columns of tables, the index of a transaction's own entries, what entries make of one row
-- or column, and which rows are there after them. No public clause rests on these.
pub mod Keys
pub mod Newest
pub mod Columns
pub mod RowBytes
pub mod KeptBytes
pub mod Chains
pub mod OwnRows
pub mod Cells
pub mod RowsTold
pub mod Images

-- Only for proofs: what holds of the parts of a block, of a piece and of a store, how columns stand once each was changed,
-- and what partitions are together. No public clause of another crate rests on these.
pub mod Edits
pub mod Parts
pub mod Joins
pub mod Pieces
pub mod EntryLaws
pub mod Gathered
pub mod Ends
pub mod Views
pub mod Stores

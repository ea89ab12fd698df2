-- Only for proofs: what a primary is of its parts and keeps of them, and how a journal is repaired at a start. No public clause
-- rests on these.
pub mod Opening
pub mod Parts
pub mod Tail
pub mod Invariant

-- Only for proofs: how the parts of a plain store and of its tables are seen, and what holds of them. No public clause
-- rests on these.
pub mod Order
pub mod Invariant

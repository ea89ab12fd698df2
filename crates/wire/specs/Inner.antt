-- Only for proofs: what holds of entries that stand in the bytes of a frame. No public clause rests on it.
pub mod Filling

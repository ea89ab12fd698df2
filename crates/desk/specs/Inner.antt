-- What only helps proofs; no public clause rests on it.
pub mod Told
pub mod Noted

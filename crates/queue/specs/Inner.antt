-- What only helps proofs; no public clause rests on it.
pub mod Seats

-- Only for proofs: how known seqs are held, and what one worker's part of a call does. No public clause names these.
pub mod Held
pub mod Collecting

-- Only for proofs: what is read of a report, piece by piece. No public clause names these.
pub mod Pieces

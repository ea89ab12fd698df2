-- Only for proofs: how the fields of a replica's core make the state that its contracts speak of, what the parts of its
-- calls do, how far a merge has come, and how the text of its tables comes about. No public clause names these.
pub mod Held
pub mod Invariant
pub mod Merging
pub mod Parts
pub mod Walk

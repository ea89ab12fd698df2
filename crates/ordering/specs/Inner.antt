-- Only for proofs: how far the frames of a commit have come, and where a merge stops. No public clause names these.
pub mod Progress

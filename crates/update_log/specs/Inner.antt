-- How streams are kept: where the entries of each frame stand, and how a stream is split at a version. What a stream is, how
-- many frames it has and what each of them is (`stream_of`, `frame_count`) is said without these.
pub mod Kept
pub mod Spans
pub mod Splitting

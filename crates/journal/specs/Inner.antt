-- Only for proofs: how a record is read from the front of bytes, which rows are present, how far recovery has come, and what stands
-- in a journal's file. No public clause names these.
pub mod Reading
pub mod Presence
pub mod Slots
pub mod Progress
pub mod Settling

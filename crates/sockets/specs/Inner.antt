-- Only for proofs: what the steps of a turn and of a job do. No public clause names these.
pub mod Sending
pub mod Steps
pub mod Deeds
pub mod Jobs
pub mod JobSeats

pub mod State
pub mod Steps
pub mod Journaling
pub mod Lending
pub mod Sending
pub mod Inner

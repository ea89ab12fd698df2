pub mod Denials
pub mod Houses
pub mod Places
pub mod Rounds
pub mod Waits

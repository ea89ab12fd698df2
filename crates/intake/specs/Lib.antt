pub mod Known
pub mod State
pub mod Steps
pub mod Kept
pub mod Streams
pub mod Laws
pub mod Inner

pub mod State
pub mod Keeping
pub mod Answers
pub mod Inner

pub mod Rows
pub mod Ids
pub mod Runs
pub mod TableKinds
pub mod Outcomes
pub mod Beginnings
pub mod Cleared

pub mod Changes
pub mod Lent
pub mod Laws
pub mod State
pub mod Faults
pub mod Inner

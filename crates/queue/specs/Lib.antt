pub mod Limits
pub mod Rule
pub mod Passes
pub mod Laws
pub mod Apart
pub mod Inner

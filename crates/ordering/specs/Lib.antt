pub mod Merging
pub mod Cutting
pub mod Laws
pub mod Inner

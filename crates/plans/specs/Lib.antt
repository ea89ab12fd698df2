pub mod Partials
pub mod Laws
pub mod Inner

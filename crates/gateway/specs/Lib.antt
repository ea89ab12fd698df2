pub mod Jobs
pub mod Serving
pub mod Inner

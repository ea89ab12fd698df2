pub mod Text
pub mod Recovery
pub mod Laws
pub mod Storing
pub mod State
pub mod Worked
pub mod Inner

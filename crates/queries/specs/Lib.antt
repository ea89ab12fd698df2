pub mod Limits
pub mod Checking
pub mod Order
pub mod Answers
pub mod Report
pub mod Laws
pub mod Worked

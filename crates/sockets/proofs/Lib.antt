pub mod Carried
pub mod Counting
pub mod Served
pub mod Stepping
pub mod Damage
pub mod Deeding
mod TurnsLeft
mod Beginnings
mod Drafts
mod Jobs
mod Taking
mod Working
mod Crews
mod Streams
mod Tested
mod Sent
mod Asks
mod Hearing
mod Passing

pub mod Owned
pub mod Listed
pub mod Keeping

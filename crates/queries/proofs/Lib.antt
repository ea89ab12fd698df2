pub mod Faultless
pub mod Texts
pub mod Widening

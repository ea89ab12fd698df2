pub mod Beginnings
pub mod Cells
pub mod Stamps
pub mod Keeping

pub mod Seqs
pub mod Holding
pub mod Keeping
pub mod Workers
pub mod Feeding
pub mod Staying
pub mod Missing
pub mod Passing

-- Only for proofs: what the calls of the cores are, and what every world keeps. No public clause rests on these.
pub mod Naming
pub mod Running
pub mod Nodes
pub mod CoreSteps
pub mod Boots
pub mod Sound
pub mod Undamaged
pub mod Fresh
pub mod Invariant
pub mod StepLaws

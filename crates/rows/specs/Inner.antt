-- Only for proofs: how octets are kept, which rows are there after commits, names as they
-- are shown, and that `==` is an equivalence. No public clause rests on these.
pub mod Padded
pub mod Presence
pub mod Shown
pub mod Equivalence

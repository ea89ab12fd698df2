-- Only for proofs: the rule that every step on a history keeps, and what each step tells. No public clause rests on these.
pub mod Rule
pub mod Steps

-- Only for proofs: how far jobs were taken, answers with a text, and what requests for queries are told. No public clause names these.
pub mod Taking
pub mod Answering
pub mod Queries

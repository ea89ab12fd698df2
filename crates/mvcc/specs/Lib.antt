pub mod VersionList
pub mod Values
pub mod Newest
pub mod ImageParts
pub mod Transaction
pub mod Transactions
pub mod Inner

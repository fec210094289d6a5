pub mod Agreements
pub mod Batches
pub mod History
pub mod Inner
pub mod Laws
pub mod Limits
pub mod Parties
pub mod Rule

pub mod Claims
pub mod Inner
pub mod Jobs
pub mod Limits

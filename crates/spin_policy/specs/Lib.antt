pub mod Verdicts
pub mod Imposed
pub mod Limits

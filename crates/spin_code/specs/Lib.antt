pub mod Check
pub mod Inner
pub mod Size
pub mod Truth
pub mod Uses
pub mod Value
pub mod Limits
pub mod Required

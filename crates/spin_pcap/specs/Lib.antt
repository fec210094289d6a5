pub mod Captures
pub mod Inner
pub mod Laws
pub mod Passing
pub mod Limits
pub mod Whole
pub mod Windows

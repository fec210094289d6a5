pub mod Faults
pub mod Inner
pub mod Orders
pub mod Precedence
pub mod Unplaced

pub mod Lines
pub mod Names
pub mod Passings
pub mod Statuses

-- What the contracts of private functions cite alone.
pub mod Joining
pub mod Making
pub mod Running

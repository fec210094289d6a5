-- What the contracts of private functions cite alone.
pub mod Flags
pub mod Parts
pub mod Standings

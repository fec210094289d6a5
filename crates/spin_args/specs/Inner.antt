-- What the contracts of private functions cite alone.
pub mod Parsing

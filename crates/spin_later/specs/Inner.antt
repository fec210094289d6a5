-- What invariants and the contracts of private functions cite alone.
pub mod Passes
pub mod Work

-- What invariants and the contracts of private functions cite alone.
pub mod Orderly
pub mod Places
pub mod Reading

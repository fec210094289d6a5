-- What invariants and the contracts of private functions cite alone.
pub mod Numbered
pub mod Places
pub mod Workers

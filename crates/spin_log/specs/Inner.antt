-- What invariants and the contracts of private functions cite alone.
pub mod Blank
pub mod Places
pub mod Seats

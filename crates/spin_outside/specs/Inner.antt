-- What invariants and the contracts of private functions cite alone.
pub mod Apart
pub mod NoneLeft

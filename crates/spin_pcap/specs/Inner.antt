-- What the contracts of private functions cite alone.
pub mod Filling
pub mod Held
pub mod Recording

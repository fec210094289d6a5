-- What the contracts of private functions cite alone.
pub mod Tries
pub mod Gathering

-- What the contracts of private functions cite alone.
pub mod Numbering
pub mod Slots

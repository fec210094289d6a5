-- What the contracts of private functions say.
pub mod Keywords
pub mod Reading
pub mod Spots
pub mod Fronts

-- What only contracts of private functions cite.
pub mod Drafts
pub mod Reader
pub mod Declaring
pub mod Sound

-- What only private functions cite.
pub mod Apart
pub mod Commands
pub mod Endings
pub mod Lines
pub mod States

-- What the contracts of private functions cite alone.
pub mod Answering
pub mod Marks
pub mod Course
pub mod Outside
pub mod Parts
pub mod Meeting
pub mod Weaves
pub mod Ending
pub mod Lining
pub mod Reading
pub mod Sending
pub mod Steps
pub mod Tallies
pub mod Writing

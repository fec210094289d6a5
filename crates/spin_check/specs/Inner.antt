-- What the contracts of private functions cite alone.
pub mod Told
pub mod Fronts
pub mod Asks
pub mod Answers
pub mod Standings
pub mod Replays
pub mod Segments
pub mod Remains

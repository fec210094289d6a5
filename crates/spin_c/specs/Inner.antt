-- What the contracts of private functions cite alone.
pub mod JobReplies
pub mod Refusals

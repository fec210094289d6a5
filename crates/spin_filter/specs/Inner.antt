-- What the contracts of private functions cite alone.
pub mod Fresh
pub mod Giving
pub mod Sends
pub mod Stopping

pub mod Echoes
pub mod Fragments
pub mod Inner
pub mod JoinedCaptures
pub mod Joining
pub mod Laws
pub mod Limits

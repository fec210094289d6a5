pub mod Endpoints
pub mod Framing
pub mod Inner
pub mod Keeping
pub mod Named
pub mod Sends
pub mod Limits

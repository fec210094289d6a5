pub mod Adding
pub mod Doing
pub mod Layers
pub mod There
pub mod Units
pub mod Limits

pub mod Heads
pub mod Limits
pub mod Packets
pub mod Written

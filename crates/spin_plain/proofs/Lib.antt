pub mod Turns
pub mod RisingNumbers
pub mod OneAnswer
pub mod OneLane
pub mod PlainRun

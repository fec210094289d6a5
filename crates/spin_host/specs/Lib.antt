pub mod Gifts
pub mod OpenRaises
pub mod Frames
pub mod Opening
pub mod Levels
pub mod Laws

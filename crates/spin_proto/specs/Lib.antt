pub mod Whole
pub mod Replies
pub mod Parts
pub mod Views
pub mod Renamings
pub mod Inner
pub mod Limits

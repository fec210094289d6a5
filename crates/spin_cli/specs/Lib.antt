pub mod Gen
pub mod Headline
pub mod Inner
pub mod Join
pub mod Run
pub mod Statuses

pub mod Answers
pub mod History
pub mod Inner
pub mod Laws
pub mod Pens
pub mod Rows
pub mod Rule
pub mod Steps

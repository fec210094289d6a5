pub mod Numbers
pub mod Records
pub mod Declarations
pub mod Drafts
pub mod Texts
pub mod Laws
pub mod Inner

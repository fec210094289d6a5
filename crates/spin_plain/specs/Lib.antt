pub mod Order
pub mod Plain
pub mod Laws
pub mod Examples

pub mod Guard
pub mod Laws

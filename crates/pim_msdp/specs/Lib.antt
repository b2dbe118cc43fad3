pub mod Actives
pub mod Laws
pub mod Own

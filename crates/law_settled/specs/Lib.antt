pub mod Laws
pub mod Choices
pub mod Rows
pub mod Ready

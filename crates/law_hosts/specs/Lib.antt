pub mod Held
pub mod Staying
pub mod Sure
pub mod Members
pub mod Behind

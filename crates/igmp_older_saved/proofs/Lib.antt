pub mod Spelled
pub mod Resumed
pub mod Opening

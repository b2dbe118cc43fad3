pub mod Hops
pub mod Index
pub mod Routes

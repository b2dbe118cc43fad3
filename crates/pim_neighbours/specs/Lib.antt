pub mod Delays
pub mod Refreshed

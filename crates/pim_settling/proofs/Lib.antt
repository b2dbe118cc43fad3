mod Following
pub mod Settling
mod SightStays

pub mod Hosts
pub mod Laws
pub mod Reading
pub mod Refused
pub mod Slices
pub mod Text
pub mod Runs

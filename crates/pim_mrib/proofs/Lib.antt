pub mod Accepted
mod Distinct
pub mod Filled
mod Hops
pub mod Inserted
pub mod Longest
mod Preferences
pub mod Routed
mod Scan

pub mod Apart
pub mod Once
pub mod Rows
mod Tested
mod UpKeys
mod Reconfigured
mod Around
mod FoundLinks

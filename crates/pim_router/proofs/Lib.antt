mod Accepted
mod LocalKeys
mod Offering
mod Runs
mod Shown
pub mod Reloaded
pub mod Asked

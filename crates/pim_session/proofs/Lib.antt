pub mod Counted
pub mod FrontLaws
pub mod Guarding
pub mod Hearing
pub mod SetLaws
pub mod Sharing
pub mod Sourcing
pub mod Taking
mod Leaving
mod Saving

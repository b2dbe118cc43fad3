pub mod Fronts
pub mod Kept
pub mod Learned
pub mod Shared
pub mod Statuses
pub mod Stops

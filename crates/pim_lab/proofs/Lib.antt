pub mod Fronts
pub mod FrontRead
pub mod Opening
pub mod Sharing
pub mod Stops
pub mod Told

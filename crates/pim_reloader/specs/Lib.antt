pub mod Asking
pub mod Listing
pub mod Reloads
pub mod Same

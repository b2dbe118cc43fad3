pub mod Apart
mod Alone
mod Choosing
mod Counts
mod Offered
mod Saving
mod Values
pub mod Accepted
pub mod JoinedLaws
mod Lasting
pub mod Lists
mod Others
mod Own
pub mod Ranges
mod Same
pub mod Sounder
pub mod Told
pub mod Restored
pub mod Spelled

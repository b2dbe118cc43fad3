mod Alone
mod AllRows
pub mod Counts
pub mod Few
pub mod Listed
mod EachOnce
pub mod Opened
mod Others
mod Refreshed
mod Same
mod SameSets
pub mod Shown
pub mod Untouched
mod Joining
mod Grouping

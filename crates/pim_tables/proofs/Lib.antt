mod Counting
pub mod Firsts
pub mod Gone
mod GroupKeys
mod Joined
pub mod Lookups
pub mod Orders
pub mod RisingRows
pub mod Rows
pub mod RowsIn
mod Standing
pub mod Steps
pub mod Updates
mod Walks

pub mod Filled
pub mod FilledRecords
pub mod Made
pub mod SettledTests
pub mod Taken
pub mod Tests
pub mod Gathered
pub mod Held
mod RestedOrdered
mod Read
pub mod RestedTests
mod Unmoved

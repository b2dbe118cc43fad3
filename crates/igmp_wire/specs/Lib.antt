pub mod Codes
pub mod Messages
pub mod Parts
pub mod Queries
pub mod Reports
pub mod Values
pub mod Written

pub mod Changes
pub mod Kinds
pub mod Looking
pub mod Queries
pub mod Reports

pub mod Listing
pub mod MembershipTables
pub mod Sources
pub mod StaleQueries

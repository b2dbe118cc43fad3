pub mod Ends
pub mod Election
pub mod Towards

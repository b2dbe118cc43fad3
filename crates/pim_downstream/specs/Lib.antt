pub mod Ends
pub mod Naming

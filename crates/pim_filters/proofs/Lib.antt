pub mod Applying
pub mod Members
pub mod Merging
pub mod Orders

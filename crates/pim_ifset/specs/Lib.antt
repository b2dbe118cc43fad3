pub mod Members
pub mod Packed

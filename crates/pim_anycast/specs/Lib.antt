pub mod Announced
pub mod Joined
pub mod Laws
pub mod Members
pub mod Passed
pub mod Sets

pub mod Ascending
pub mod Masks
pub mod Packing
pub mod Sets

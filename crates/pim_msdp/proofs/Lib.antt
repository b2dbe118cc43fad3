pub mod Lengths
pub mod Taking

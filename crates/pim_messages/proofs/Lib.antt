pub mod Lengths
pub mod Delays
pub mod Writing

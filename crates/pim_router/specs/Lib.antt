pub mod Asked
pub mod Standing
pub mod Stepped
pub mod Stepping

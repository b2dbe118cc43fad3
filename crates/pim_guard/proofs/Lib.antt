pub mod Passing
pub mod Guarded

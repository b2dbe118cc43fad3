pub mod InOrder
pub mod Logs
pub mod SaySame
pub mod Sizes
pub mod Sound
pub mod Standing
pub mod Weights

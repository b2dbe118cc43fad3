pub mod Recorded
pub mod Refilled
pub mod Rows
pub mod Settled
pub mod Leading
pub mod Ordered
pub mod Refused
pub mod Resuming

mod Receivers
mod Told
mod Writes
mod Rising
mod Robust
pub mod Found
mod Named
mod Kept
mod OfKind
mod Walked
mod Going

pub mod Stages
pub mod Fewer
pub mod FirstOf
pub mod Elsewhere
pub mod Places
pub mod Parts
pub mod Rows
pub mod Views
pub mod Groups
pub mod Bits
pub mod BitsInTurn
pub mod Core
pub mod Facts
pub mod SameTests
pub mod Named
pub mod Laws
mod FirstInterface
mod PartToClear
mod Fuel
mod Progress
mod Alone
mod SptBit
mod Receiving
mod Needed
mod Stays

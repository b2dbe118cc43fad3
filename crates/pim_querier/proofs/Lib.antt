mod EachOnce
mod Electing
mod Expired
mod InTurn
mod LateSources
mod Looking
mod Lowered
mod Missing
pub mod NamedRecords
mod NamedSet
pub mod NamedSources
mod Naming
mod Parts
mod Queried
mod Reported
mod Sent
mod Starting
pub mod OneSource
mod Room

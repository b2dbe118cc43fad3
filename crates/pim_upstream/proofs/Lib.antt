mod Absorbed
mod Alone
mod EntryChanges
mod HeardKeys
mod HeardMessages
pub mod Members
pub mod Moves
pub mod Progress
pub mod Pruned
pub mod Steps
pub mod UpstreamLaws

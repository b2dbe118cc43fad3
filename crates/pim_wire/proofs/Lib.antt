pub mod Inner
pub mod JoinPruneLaw
pub mod Laws
pub mod Options
pub mod Texts
pub mod Walks
pub mod WrittenEntries
pub mod Yields

mod GroupKeys
mod Judged
mod Loops
pub mod NamedSets
pub mod OnInterface
mod Rows
mod RptGroups

pub mod Bare
pub mod Entry
pub mod JoinTimers
pub mod PimTables
pub mod Said
pub mod Sources
pub mod Stored
pub mod Telling

pub mod Accepted
mod Elected
mod Refreshed
pub mod FirstFound
pub mod Gathered
pub mod Gathering
pub mod GatheredSources
pub mod Lent
mod LoweredRows
mod Named
mod NextEnding
mod Options
mod Short
pub mod Said
pub mod Visits
pub mod Written
pub mod Room

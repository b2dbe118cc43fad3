pub mod Brought
pub mod Lent
pub mod Memory
pub mod Visits

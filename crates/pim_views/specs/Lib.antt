pub mod Openings
pub mod After
pub mod Covers

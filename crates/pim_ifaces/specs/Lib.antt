pub mod Interfaces
pub mod Subnets

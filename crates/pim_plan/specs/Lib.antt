pub mod Acting
pub mod Naming
pub mod Planning
pub mod Rejoining
pub mod Renewing
pub mod Repeats
pub mod Tunnels

pub mod Asked
pub mod Carried
pub mod Ports
pub mod Reloading
pub mod Showing

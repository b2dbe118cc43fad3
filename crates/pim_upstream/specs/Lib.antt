pub mod Hearing
pub mod Laws
pub mod Timers
pub mod Told

mod Asserted
mod Direct
mod Growing
mod Heard
mod IgmpFacts
mod Machines
mod MovedEnds
mod MovedReports
mod Packets
mod Plans
pub mod Rejoined
pub mod Renewed
pub mod Repeats
pub mod Sourced
mod Stopped
mod Tables
pub mod Touching
pub mod Tunnelled
mod WonAgain

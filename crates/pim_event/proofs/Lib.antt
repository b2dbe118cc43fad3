mod Acts
mod Caching
mod Configured
pub mod Costs
pub mod Disturbing
mod Firings
mod Replacing
mod Rerouting
mod Frames
mod Hearing
mod Instants
pub mod Listing
mod Judgements
mod AtRp
mod Lasting
mod Plainly
mod Repeating
mod Rows
mod Sending
pub mod Staying
mod Serving
mod SourceEnds
pub mod Taking
mod Expiring
mod Quietly

mod Lowering
mod StartedAnew
mod Losses
mod Ranked
mod Led
mod OffLink

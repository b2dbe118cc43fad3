mod Between
pub mod OtherRoutes
mod InUse

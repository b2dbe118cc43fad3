pub mod Between
pub mod Few
pub mod OtherRoutes

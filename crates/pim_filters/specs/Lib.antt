pub mod Asking
pub mod Cases
pub mod Changes
pub mod Lowering
pub mod Members
pub mod Rules

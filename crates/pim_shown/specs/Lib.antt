pub mod Trees
pub mod Links
pub mod TreeMacros

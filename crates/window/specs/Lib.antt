pub mod ListRule
pub mod WindowView
pub mod Windows
pub mod Scanning
pub mod inside

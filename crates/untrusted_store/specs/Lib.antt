pub mod Telling
pub mod Planned
pub mod inside

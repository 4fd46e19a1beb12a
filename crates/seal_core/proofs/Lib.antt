pub mod Checks
pub mod Joined

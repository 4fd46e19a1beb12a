pub mod Plans
pub mod Places
pub mod Slots
pub mod First
pub mod Counts

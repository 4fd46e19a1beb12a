pub mod Places
pub mod Quarters
pub mod Standing
pub mod Receptions

pub mod Edits
pub mod Forged
pub mod Scripts

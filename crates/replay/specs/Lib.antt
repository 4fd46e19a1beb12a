pub mod Words
pub mod Lines
pub mod Twins
pub mod Summary
pub mod Due
pub mod Kept
pub mod Status
pub mod inside

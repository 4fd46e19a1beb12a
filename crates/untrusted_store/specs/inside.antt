pub mod Ahead
pub mod Store

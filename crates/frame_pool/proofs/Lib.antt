pub mod Counting
pub mod Emptying
pub mod Times
pub mod Blocks
pub mod Putting
pub mod Giving
pub mod Opening
pub mod Copying

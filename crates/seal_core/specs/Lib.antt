pub mod Blocks
pub mod Sealing
pub mod Clear
pub mod Parts
pub mod ClearLaws

pub mod LowParts
pub mod Comparing

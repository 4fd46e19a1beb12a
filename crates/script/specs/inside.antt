pub mod Readers
pub mod Stages

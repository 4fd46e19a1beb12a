pub mod Options
pub mod Writes
pub mod Questions
pub mod FalseRecords
pub mod Following

pub mod Commands
pub mod Owing
pub mod Printing
pub mod Reading

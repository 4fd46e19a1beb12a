pub mod States
pub mod Keys
pub mod Parties
pub mod Counting
pub mod Growth
pub mod NothingFalse

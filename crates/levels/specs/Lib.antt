pub mod Order
pub mod Names
pub mod Rosters
pub mod Keys
pub mod Kept
pub mod Adding
pub mod inside

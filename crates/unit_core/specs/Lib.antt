pub mod Views
pub mod Sending
pub mod Hearing
pub mod Tallies
pub mod Turns
pub mod inside

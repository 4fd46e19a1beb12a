pub mod Generator
pub mod Steps
pub mod Places
pub mod Rosters
pub mod Events
pub mod Drills
pub mod Honest
pub mod inside

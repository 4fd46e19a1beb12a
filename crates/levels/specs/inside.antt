pub mod Hosts
pub mod LevelNames
pub mod Rosters

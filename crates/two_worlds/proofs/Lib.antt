pub mod Lists
pub mod LowPlaces
pub mod OneWay

pub mod OwnPlaces

pub mod Room
pub mod Rising
pub mod Opening
pub mod Results
pub mod Sights
pub mod Following

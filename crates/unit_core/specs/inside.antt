pub mod Bodies
pub mod Messages
pub mod Outs
pub mod Ours
pub mod Ends
pub mod Sides
pub mod Units
pub mod Both

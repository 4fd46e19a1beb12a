pub mod EndView
pub mod Ends
pub mod Sides
pub mod Links
pub mod Steps
pub mod Calls
pub mod inside

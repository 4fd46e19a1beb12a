pub mod Pieces
pub mod Frames
pub mod Ahead
pub mod inside

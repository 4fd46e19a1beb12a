pub mod NetView
pub mod Nets

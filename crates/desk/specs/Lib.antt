pub mod Batches
pub mod Wires
pub mod Views
pub mod Deeds
pub mod Desks
pub mod inside

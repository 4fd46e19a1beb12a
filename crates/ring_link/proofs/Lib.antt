pub mod Pending
pub mod Arriving
pub mod Walking
pub mod Offering
pub mod Receiving
pub mod Settling

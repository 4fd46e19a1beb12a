pub mod PoolView
pub mod Pools
pub mod inside

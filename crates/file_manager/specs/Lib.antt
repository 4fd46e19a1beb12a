pub mod ShelfView
pub mod ManagerView
pub mod Standing
pub mod Outcomes
pub mod Effects
pub mod inside

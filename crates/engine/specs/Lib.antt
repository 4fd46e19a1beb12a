pub mod Genuine
pub mod Handed
pub mod Turns
pub mod States
pub mod Slots
pub mod ReportView
pub mod Reports
pub mod inside

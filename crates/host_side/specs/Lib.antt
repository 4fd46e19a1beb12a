pub mod Sending
pub mod HostView
pub mod Hosts
pub mod inside

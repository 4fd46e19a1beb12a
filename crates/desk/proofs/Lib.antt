mod Cases
mod Doing
mod Batched
mod Batching
mod Calls
mod Moving
mod Turning
mod Wiring

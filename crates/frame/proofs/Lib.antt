mod Bytes
mod Cutting
mod Joining
mod Spelling
mod Unsealing

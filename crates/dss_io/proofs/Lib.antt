mod TakenBytes
mod WrittenBytes

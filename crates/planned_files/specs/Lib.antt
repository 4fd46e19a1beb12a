pub mod FilesView
pub mod Standing
pub mod Answers
pub mod inside

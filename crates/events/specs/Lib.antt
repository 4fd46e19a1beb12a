pub mod Edits
pub mod ScriptView
pub mod Scripts
pub mod Words
pub mod inside

pub mod Names
pub mod Spelling
pub mod ByteLaws
pub mod SpellingLaws
pub mod SpellingBytes
pub mod inside

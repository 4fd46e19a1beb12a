pub mod Words
pub mod Shapes
pub mod BitLaws
pub mod CipherLaws
pub mod TextLaws

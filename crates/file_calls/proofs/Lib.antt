pub mod Options
pub mod FieldLemmas
pub mod Rising
pub mod NamesRead
pub mod CallsRead
pub mod RepliesRead

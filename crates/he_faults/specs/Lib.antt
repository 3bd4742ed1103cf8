pub mod Clauses
pub mod Meant
pub mod Sentences

pub mod Answers
pub mod Own
pub mod Past

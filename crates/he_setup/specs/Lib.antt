pub mod Answers
pub mod Embedding
pub mod Races
pub mod Recorded
pub mod Start

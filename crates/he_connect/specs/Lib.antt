pub mod Answers
pub mod Embedded
pub mod Origins
pub mod Races
pub mod Recorded

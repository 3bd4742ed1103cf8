pub mod Fastest
pub mod Json
pub mod Recorded
pub mod Rounds
pub mod Rows
pub mod Texts
pub mod Verdicts

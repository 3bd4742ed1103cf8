pub mod Levels
pub mod Log
pub mod Lost

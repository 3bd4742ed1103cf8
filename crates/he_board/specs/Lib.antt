pub mod Balance
pub mod Lawful
pub mod Notes
pub mod Passes
pub mod Plays
pub mod Workers

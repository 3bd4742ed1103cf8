pub mod Input
pub mod Limits
pub mod Marks
pub mod Output
pub mod Pieces
pub mod Runs
pub mod Steps

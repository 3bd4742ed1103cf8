pub mod Pairs
pub mod Reading
pub mod Same

pub mod Added
pub mod Alone
pub mod Empty
pub mod Facts
pub mod Recorded

pub mod Cleaned
pub mod Once
pub mod Texts

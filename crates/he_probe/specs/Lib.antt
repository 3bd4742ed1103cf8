pub mod Probing
pub mod Schedule

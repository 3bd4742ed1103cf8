pub mod Access
pub mod Dials

pub mod Failures
pub mod Recorded

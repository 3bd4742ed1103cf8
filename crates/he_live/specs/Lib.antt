pub mod Live
pub mod Reasons
pub mod Reading
pub mod Dials
pub mod Recorded
pub mod Probed

pub mod Asking
pub mod Begins
pub mod Heard
pub mod Needs

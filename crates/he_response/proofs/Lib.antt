pub mod Coming
pub mod Framings
pub mod Heads
pub mod Lines
pub mod Refusals

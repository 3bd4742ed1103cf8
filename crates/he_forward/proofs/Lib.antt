pub mod Framings
pub mod Heads
pub mod Lines
pub mod Named
pub mod Refusals

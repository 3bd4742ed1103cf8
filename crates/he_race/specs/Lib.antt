pub mod Following
pub mod Running
pub mod Scripted
pub mod Wheel

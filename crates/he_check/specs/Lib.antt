pub mod AllFaults
pub mod Checked
pub mod Kinds
pub mod Objects
pub mod Sentences
pub mod Slips
pub mod Steps
pub mod Stream

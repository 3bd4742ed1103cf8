pub mod Documents
pub mod Facts
pub mod Json
pub mod Laws
pub mod Machine
pub mod Names
pub mod Recorded
pub mod Times

pub mod Moved
pub mod Pumped
pub mod Relayed

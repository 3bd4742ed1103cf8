pub mod Handing
pub mod Joining
pub mod Pooling
pub mod Trying
pub mod Winning

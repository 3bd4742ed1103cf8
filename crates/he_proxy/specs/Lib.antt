pub mod Counting
pub mod Limits
pub mod Races
pub mod Recorded
pub mod Sockets
pub mod Users

pub mod Addressed
pub mod Bools
pub mod ByAddress
pub mod Lasting
pub mod Placed
pub mod Ranges
pub mod Seen

mod Hosted
pub mod Loops
pub mod Mapped
pub mod Percentiles
pub mod Sums
pub mod Tallied
pub mod Walked

pub mod Adding
pub mod Losing

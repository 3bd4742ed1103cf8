pub mod Orders
pub mod Writing
pub mod Written

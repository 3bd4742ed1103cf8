pub mod GivenUp
pub mod Known

pub mod Refusing
pub mod Runs

pub mod Fakes

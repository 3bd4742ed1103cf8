pub mod Known
pub mod KnownText
pub mod Keeping

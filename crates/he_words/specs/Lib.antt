pub mod Appending
pub mod Kinds
pub mod Marks
pub mod Ranges
pub mod Words

pub mod Fields
pub mod Framings
pub mod Heads
pub mod Written
pub mod Responses
pub mod Answers
pub mod Returns

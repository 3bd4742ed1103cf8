pub mod Basic
pub mod Lines
pub mod Users

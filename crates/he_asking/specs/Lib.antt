pub mod Events
pub mod Needs
pub mod Replies
pub mod Said

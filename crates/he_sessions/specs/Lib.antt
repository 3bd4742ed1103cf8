pub mod Follows
pub mod Forwarding
pub mod Laws
pub mod Sessions
pub mod Talks
pub mod Went
pub mod Won

mod Joined
mod Listed
pub mod Told

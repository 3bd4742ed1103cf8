pub mod Listening
pub mod Proxies
pub mod Refused
pub mod Rules

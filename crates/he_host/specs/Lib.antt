pub mod FibTrie
pub mod Found
pub mod Gathering
pub mod Interfaces
pub mod Ipv4Route
pub mod Ipv6Route
pub mod Placing
pub mod Whole

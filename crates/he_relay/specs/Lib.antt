pub mod Pumps
pub mod Relays
pub mod Tunnels
pub mod Ways

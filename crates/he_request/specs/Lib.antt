pub mod Probes
pub mod Requests

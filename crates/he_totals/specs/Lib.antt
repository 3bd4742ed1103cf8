pub mod Hosts
pub mod Kept
pub mod Laws
pub mod Steps
pub mod Summed
pub mod Times
pub mod Totals
pub mod Tries

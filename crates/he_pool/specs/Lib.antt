pub mod Batch
pub mod Working

pub mod Figures
pub mod Json
pub mod Members
pub mod Metrics
pub mod Written

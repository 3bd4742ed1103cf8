pub mod Counting
pub mod Exposition
pub mod Histograms
pub mod Samples

pub mod Directories
pub mod Listed
pub mod Pages
pub mod Status
pub mod Streams
pub mod Summaries
pub mod Texts
pub mod Whole

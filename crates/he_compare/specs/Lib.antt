pub mod Groups
pub mod Hours
pub mod Lines
pub mod Rows
pub mod Table
pub mod Verdicts
pub mod Worst

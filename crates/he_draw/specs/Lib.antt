pub mod Page
pub mod Picture
pub mod Rows
pub mod Svg

mod Asked
mod InRows
mod Showing

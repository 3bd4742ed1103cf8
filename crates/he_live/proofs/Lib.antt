pub mod Records
mod Running

mod Hearing
mod Asked
mod Session

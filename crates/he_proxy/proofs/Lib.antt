mod Runs
mod Recorded

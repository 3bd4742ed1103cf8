mod Quickest
mod Rounded

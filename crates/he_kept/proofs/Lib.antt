mod Copying
mod Holding

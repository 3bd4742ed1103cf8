mod Faulty
mod Standing

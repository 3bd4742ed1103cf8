mod ReadBack
mod Putting

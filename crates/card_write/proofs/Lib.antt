mod Sizes
mod Putting

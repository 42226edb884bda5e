pub mod Numbers
pub mod Prints

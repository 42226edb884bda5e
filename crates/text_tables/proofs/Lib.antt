-- Other crates cite Short and Fits.
pub mod Short
pub mod Fits
mod Rows

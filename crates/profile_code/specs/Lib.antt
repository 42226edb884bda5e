pub mod Theorems
pub mod Shown

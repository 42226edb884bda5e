-- What other crates may cite; below it, the laws that lead there.
pub mod Theorems
pub mod Entries
pub mod Lines
pub mod Long
pub mod Replaying
pub mod Windows
mod Fits
mod Calling

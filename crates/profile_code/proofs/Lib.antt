-- What other crates may cite; below it, the laws that lead there.
pub mod Theorems
pub mod Checked
mod Readers
mod Runs
mod Shown
mod Held

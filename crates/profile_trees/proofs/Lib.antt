-- What other crates may cite; below it, the laws that lead there.
pub mod Theorems
mod Compiled

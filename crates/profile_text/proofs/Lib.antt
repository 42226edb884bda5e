-- What other crates may cite; below it, the laws that lead there.
pub mod Theorems
pub mod Parts
mod Trees
mod Answers
pub mod Judging
mod Shown

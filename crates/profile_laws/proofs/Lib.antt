-- What other crates may cite; below it, the laws that lead there.
pub mod Theorems
mod Verdicts
mod Goals
mod Asked
mod Results
mod Integers
mod Faithful
mod Taken

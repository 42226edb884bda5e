-- Laws of drafts; the crates above cite Putting, Signing and Marks.
pub mod Putting
pub mod Signing
pub mod Marks
mod Numbers
mod Typed
mod Words

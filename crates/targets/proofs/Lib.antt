pub mod Theorems
mod Enclosing
mod Inside
pub mod Indexing
pub mod Running
pub mod Pairs

-- What other crates may cite; below it, the laws that lead there.
pub mod Laws
pub mod Long
pub mod Stores
pub mod Tests
mod Decimals
mod Patterns
mod Runs

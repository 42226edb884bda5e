-- The laws that other crates may cite; below them, what several proofs of this crate share.
pub mod Theorems
pub mod Places
pub mod Laws
pub mod Known
pub mod Tests
pub mod Below
pub mod Runs
pub mod Readings
pub mod Same
mod Samples

-- What other crates may cite; first, samples.
mod Samples
pub mod Refusals
pub mod Places
pub mod Spelled
pub mod Nodes
pub mod Levels

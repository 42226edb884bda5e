-- What other crates may cite; below it, the laws that lead there.
pub mod Laws
pub mod Rules
pub mod Effects
pub mod Places
pub mod Blocks
pub mod Packed
pub mod Runs
pub mod Positions
mod Readings
mod Representations
mod FourBytes

-- Laws for the proofs of this crate and of the replay.
mod Entries
pub mod Cuts
pub mod Rows
pub mod Steps

-- Laws for the proofs of this crate.
mod Playing
pub mod Calling

-- Laws for the proofs of this crate.
mod Ends
mod Moves
mod Turns

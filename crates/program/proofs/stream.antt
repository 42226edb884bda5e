-- Laws for the proofs of stream.
mod Cuts
pub mod Pieces
pub mod Receiving

-- Laws for the proofs of reply.
mod Cells
mod Endings
pub mod Whole

-- Laws for the proofs of results, and of what takes a result apart.
pub mod Fields

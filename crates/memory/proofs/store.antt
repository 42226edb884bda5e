-- Laws for the proofs of store.
pub mod Encodings
mod Integers

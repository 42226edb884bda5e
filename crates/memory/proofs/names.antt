-- Laws for the proofs of names.
pub mod Decimals
pub mod Words

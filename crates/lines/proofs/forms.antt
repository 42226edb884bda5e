-- Laws for the proofs of forms.
pub mod Integers
pub mod Hexadecimals

-- Laws for the proofs of the functions.
mod Texts
mod Lines

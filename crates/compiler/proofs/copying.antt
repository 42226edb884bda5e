-- Laws for the proofs of copying.
mod Copied

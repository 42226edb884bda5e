-- Laws for the proofs of codes.
mod Both

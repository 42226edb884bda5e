-- Laws for the proofs of ahead.
mod Signs

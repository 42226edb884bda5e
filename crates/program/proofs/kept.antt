-- Laws for the proofs of kept.
mod Pushing

-- Laws for the proofs of respond.
mod Ends

-- Laws for the proofs of diagnostics.
mod Diagnostics

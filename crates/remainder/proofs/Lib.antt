-- Laws for the proofs of the functions.
mod Shifts
mod Patterns
mod Encodings
mod Specials
mod Remainders

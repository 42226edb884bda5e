-- What other crates may cite; below it, the steps that lead there, and laws for the proofs of the functions.
pub mod Laws
mod Samples
mod MixedNumbers
mod Halves
mod Patterns
mod Encodings
mod Decimals
mod Scales

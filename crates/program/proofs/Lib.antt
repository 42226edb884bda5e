-- Laws for the proofs of several modules, and of the programs above.
pub mod Answers
pub mod Names
pub mod Sizes

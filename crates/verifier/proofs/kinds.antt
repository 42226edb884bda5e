-- Laws for the proofs of kinds.
pub mod Classes
pub mod Standing

-- Laws for the proofs of convert: promotion, then the cuts.
pub mod Closest
pub mod Digits
pub mod Promotion
pub mod Negation
pub mod Limits
pub mod Cuts
pub mod Halves
pub mod Doubles
pub mod Rounding

-- Laws for the proofs of case.
mod Settings
pub mod Effects
mod Lent

-- The laws of where a value goes, which the functions' proofs and those of the operations cite.
pub mod Runs
pub mod Following
mod Values

-- What the proofs of the functions of `singles` share.
pub mod Finite
pub mod Powers

-- Laws for the proofs of printing.
pub mod Widths
pub mod Digits
mod Texts
pub mod Signs

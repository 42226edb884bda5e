-- The laws that other crates may cite; below them, what several proofs of this crate share.
pub mod Laws
mod Fields
mod Digits
mod Lexemes
mod Filling

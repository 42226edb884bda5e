-- What other crates may cite; below it, the laws that lead there.
pub mod Theorems
pub mod Formulas
pub mod Lines
pub mod Cards
pub mod Reading
pub mod Writing
mod Refusals
mod Absence
mod Weights
pub mod Damage
mod Samples

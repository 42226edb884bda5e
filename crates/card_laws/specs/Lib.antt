pub mod Lines
pub mod Cards
pub mod Verdicts
pub mod Reading
pub mod Writing
pub mod Refusals
pub mod Theorems
pub mod Formulas

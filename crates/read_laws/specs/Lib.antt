pub mod Formulas
pub mod Theorems

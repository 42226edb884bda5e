pub mod Bytewise
pub mod Conversions
pub mod Theorems

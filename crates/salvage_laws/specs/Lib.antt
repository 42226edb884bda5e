pub mod Cut
pub mod Salvage
pub mod Theorems

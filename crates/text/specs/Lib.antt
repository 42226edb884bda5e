pub mod Judge
pub mod Targets
pub mod Theorems

pub mod Tokens
pub mod Trees
pub mod Judge
pub mod Targets
pub mod Theorems
pub mod Shown

pub mod Running
pub mod Independence
pub mod Theorems
pub mod Needed

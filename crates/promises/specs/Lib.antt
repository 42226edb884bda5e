pub mod Terms
pub mod Promises
pub mod Targets
pub mod Halves
pub mod Sheet

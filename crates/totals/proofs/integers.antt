-- Laws of the module integers.
pub mod Whole
pub mod Passing

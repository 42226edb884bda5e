pub mod Scratch
pub mod Spelling

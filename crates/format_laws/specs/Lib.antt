pub mod Formatted
pub mod Format

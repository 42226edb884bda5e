pub mod Bytes
pub mod Symbols
pub mod Numerals
pub mod Words
pub mod Scan
pub mod Theorems
pub mod private

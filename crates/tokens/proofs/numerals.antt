-- What the laws of the crate cite, and the scanner.
pub mod Mantissas
pub mod Lexemes
pub mod Runs
pub mod Values

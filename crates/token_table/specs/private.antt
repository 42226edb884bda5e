pub mod Table
pub mod Lexing

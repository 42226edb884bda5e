-- What compiling a text does, on lists alone; other crates cite Theorems and Bytes.
pub mod Theorems
pub mod Bytes
mod Each
mod Encodable
mod Least
mod Scanned
mod Answers

pub mod Tests
pub mod Integers

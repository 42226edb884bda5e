pub mod Digits
pub mod Readings
pub mod Operators
pub mod Shifts
pub mod Exponents
pub mod Elapsed

pub mod Values
pub mod Integers
pub mod Multiplications
pub mod Patterns
pub mod Singles
pub mod Convert
pub mod Laws
pub mod private

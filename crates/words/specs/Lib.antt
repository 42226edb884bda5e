pub mod Words
pub mod Bits
pub mod Laws
pub mod Ascii

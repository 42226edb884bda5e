pub mod Instructions
pub mod Reals
pub mod Encode
pub mod private

pub mod Refusals
pub mod private

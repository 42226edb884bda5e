pub mod Outputs
pub mod private

pub mod Machine
pub mod Profile
pub mod Configurations
pub mod private

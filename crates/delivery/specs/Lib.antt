pub mod Delivery
pub mod Profile
pub mod private

pub mod Listing
pub mod private

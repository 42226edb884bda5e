pub mod Cards
pub mod Salvage
pub mod Lists
pub mod Replay
pub mod Listing

pub mod Replays
pub mod private

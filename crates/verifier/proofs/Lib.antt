-- Safe, Verdicts, Profile, Admitted and Moves are what other crates may cite; the others are the laws that lead to them and to `check`.
pub mod Safe
pub mod Verdicts
pub mod Profile
pub mod Admitted
pub mod Moves
mod Full
mod Pass
mod Onward
mod Bits
mod Reading
mod Held
mod Merging
mod Stepping
mod Checking

-- What other crates may cite, and the steps to the proof of run.
pub mod Laws
pub mod Bounds
pub mod Properness
pub mod Profile
mod Held
mod Acts
mod Barred
mod Rest
mod Performs
mod Visits
mod Turn

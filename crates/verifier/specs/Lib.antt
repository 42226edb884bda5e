pub mod Typing
pub mod Accepts
pub mod Stack
pub mod Safety
pub mod Verdicts
pub mod Profile
pub mod private

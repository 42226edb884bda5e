-- Promises is what a reader wants; the others are the laws that it cites.
pub mod Promises
mod Order
mod Keeping
mod Texts
mod Codes
mod Running
mod Plain
mod Finite
mod Endings
pub mod Numbers
pub mod Targets
pub mod Halves
mod Alone
pub mod Sheet

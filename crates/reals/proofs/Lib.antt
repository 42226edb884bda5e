-- What other crates may cite; below it, the steps that lead there.
pub mod Laws
pub mod Bridge
pub mod Cut
pub mod Signed
pub mod Grid
pub mod Scaled
pub mod Values
mod Near
mod Closer
mod Kept
mod Round
mod Same
mod Rising
mod Pattern
mod Evens
mod Sum
mod Ops
mod Rem
mod Order
mod Promote
mod Halves
mod Samples

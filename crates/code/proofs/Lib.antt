-- What the layers above may cite; below it, the steps that lead there.
pub mod Laws
pub mod Page
pub mod Parts
pub mod Finite
pub mod Numbers
mod Classes
mod Decodes
mod Fetches
mod Reals

-- Other crates cite Laws, and how long the answers are.
pub mod Joining
pub mod Laws
mod Effects
mod Requests
mod Commuting
mod Moving
pub mod Needed

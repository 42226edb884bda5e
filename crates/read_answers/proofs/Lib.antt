-- Other crates cite Laws, and what the buffers hold in Compiled.
pub mod Laws
pub mod Compiled
mod Runs
mod Requests
mod Effects
mod Stored

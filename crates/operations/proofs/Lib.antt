-- The laws of the operations' definitions, which the functions' proofs and the promises cite.
pub mod Verdicts
pub mod Requests
pub mod Cells
pub mod Giving
pub mod Full
mod Runs
mod Halves
mod Performing

-- Demand 3 on trees, step by step; other crates cite Demand, Laws and Nodes.
pub mod Demand
pub mod Laws
pub mod Nodes
mod Well
mod Need
mod Gives
mod Correct
mod Flow
mod Accepted
mod Bound
mod Size
mod Height
mod Samples

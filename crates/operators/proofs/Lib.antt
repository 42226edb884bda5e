-- The laws of the rules: other crates cite Laws.
pub mod Arms
pub mod Ranges
pub mod Typed
pub mod Keys
pub mod Cases
pub mod Admitted
pub mod Gives
pub mod Classes
pub mod Operators
pub mod Wrong
pub mod Properness
pub mod Positions
pub mod Laws
mod Samples

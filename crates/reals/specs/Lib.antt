pub mod Singles
pub mod Rounding
pub mod Operations
pub mod Laws

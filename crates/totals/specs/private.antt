pub mod Steps
pub mod Tally
pub mod Integers
pub mod Admitted

pub mod Intervals
pub mod Reaches

-- The steps that lead to the contracts of the code; other crates cite Intervals and Numbering.
pub mod Intervals
pub mod Numbering
mod Tests
mod Classes
mod Reaches
mod Marking

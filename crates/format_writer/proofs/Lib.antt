-- Laws of what is written; formatter cites them.
pub mod Holding

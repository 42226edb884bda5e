-- Where tokens end; formatter cites it.
pub mod Ends

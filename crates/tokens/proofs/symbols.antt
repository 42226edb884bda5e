-- What the laws of the crate and the scan cite.
pub mod Longest

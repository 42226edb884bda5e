pub mod Shapes
pub mod Pass

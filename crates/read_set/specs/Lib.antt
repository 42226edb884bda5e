pub mod Cells
pub mod private

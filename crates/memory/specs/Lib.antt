pub mod Layout
pub mod Cells
pub mod Environment
pub mod Store
pub mod Names
pub mod Numbers
pub mod Laws

pub mod Lines
pub mod Forms
pub mod Printing
pub mod Laws
pub mod private

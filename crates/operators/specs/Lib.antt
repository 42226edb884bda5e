pub mod Operators
pub mod Tables
pub mod Kinds
pub mod Reals
pub mod Laws
pub mod private

pub mod Totals
pub mod Numbers
pub mod Laws
pub mod private

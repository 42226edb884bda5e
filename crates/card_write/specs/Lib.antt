pub mod Given
pub mod private

pub mod Reply
pub mod private

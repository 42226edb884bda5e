pub mod Operations
pub mod Profile

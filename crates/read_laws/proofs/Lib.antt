-- Other crates cite Laws, and the parts of a union in Environments.
pub mod Laws
pub mod Environments
mod Codes
mod Lists

pub mod Sizes
pub mod Equality
pub mod Counts
pub mod Results
pub mod Powers
pub mod Products
pub mod Squaring

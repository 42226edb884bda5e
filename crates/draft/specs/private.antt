pub mod Results
pub mod Words
pub mod Draft
pub mod Ranges

pub mod Cases
pub mod Codes
pub mod Reply
pub mod Stream

pub mod Answers
pub mod After

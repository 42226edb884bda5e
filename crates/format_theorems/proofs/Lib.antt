-- What other crates may cite; below it, the laws that lead there.
pub mod Theorems
pub mod Words
pub mod Lexemes
pub mod Lexed
pub mod Fragments
pub mod Standing
pub mod Reading
pub mod Again

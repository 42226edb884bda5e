-- Reading card after card; other crates cite the count of words.
pub mod Turns

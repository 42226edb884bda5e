-- Laws for the proofs of the functions.
mod Names
mod Loops
mod Lists
mod Replies

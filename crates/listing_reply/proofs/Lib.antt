-- Laws for the proofs of the functions.
mod Parts
mod Replies

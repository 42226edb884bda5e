-- What the proofs of the module share.
mod Cells
mod Words

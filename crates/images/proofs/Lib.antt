pub mod Theorems
mod Old
mod Rows
mod Bits
mod Environments
mod Writes
mod Packing
mod Covered
mod Filling
mod Answering

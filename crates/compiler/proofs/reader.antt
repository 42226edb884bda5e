-- The laws that the reader's proofs cite, over lists, tokens and trees alone.
mod Looking
mod Binding
mod Meaning
mod Steps
mod Signing
mod Climbing
mod Sides
mod Ranging
mod Calls
mod Whole

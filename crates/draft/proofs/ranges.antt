-- The laws of ranges that the proofs of their functions cite.
mod Spans

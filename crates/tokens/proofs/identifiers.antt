-- What the proofs of the module share; token_table cites it.
pub mod Names
